-- `checks::items::check_items` meets its contract: the arcs' conditions come before those of the limits, and these before those of the commodities.
-- Assumes nothing.
use mathlib.Core.Path.{◌≡◌, ◌∙◌}
use native.Mathlib.Omega.{arith}
use Rattle.arith.specs.Lists.{up_to, flat}
use Rattle.network.specs.Network.{Network}
use Rattle.network.specs.Verdict.{verdict, item_conditions, arc_conditions, limit_conditions, commodity_conditions}
use Rattle.network.proofs.First.{refused-handed, accepted-first}
use Rattle.network.proofs.Limits.{limits-given}
use Rattle.packed.specs.Packed.{net_in}
use Rattle.packed.proofs.Columns.{limits-length}
use Rattle.checks.proofs.items.check_items.Goals as goal
use Rattle.checks.proofs.items.check_items.Goals.{After-check_limits}

abbrev net : After-check_limits → Network
net c = net_in c.args.net.now.shape c.args.net.now.numbers.now

-- the limits that are given say what those of all nodes do
limits-checked : (c : After-check_limits) → c.check_limits.result ≡ verdict (flat (limit_conditions (net c)) (up_to (net c).nodes))
unfolding net_in limit_conditions
limits-checked c =
    let p = c.requires in
    c.check_limits.ensures ∙ limits-given (net c) (net c).nodes (omega (arith, limits-length p, p.few-limits))

pub returns-in_err-check_arcs : goal.returns-in_err-check_arcs
unfolding item_conditions arc_conditions net_in
returns-in_err-check_arcs c = refused-handed _ _ c.check_arcs.ensures c.in_err-check_arcs.was c.from_residual.ensures.1

pub returns-in_err-check_limits : goal.returns-in_err-check_limits
unfolding item_conditions arc_conditions net_in
returns-in_err-check_limits c =
    accepted-first _ _ c.check_arcs.ensures c.in_ok-check_arcs.was
    (refused-handed _ _ (limits-checked (goal.at.returns-in_err-check_limits c).After-check_limits) c.in_err-check_limits.was c.from_residual-in_err-check_limits.ensures.1)

pub returns : goal.returns
unfolding item_conditions arc_conditions commodity_conditions net_in
returns c =
    accepted-first _ _ c.check_arcs.ensures c.in_ok-check_arcs.was
    (accepted-first _ _ (limits-checked (goal.at.returns c).After-check_limits) c.in_ok-check_limits.was c.check_commodities.ensures)
