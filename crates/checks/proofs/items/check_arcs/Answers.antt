-- `checks::items::check_arcs` meets its contract: the search from the present arc on finds what the whole search finds.
-- Assumes nothing.
use mathlib.Core.Path.{◌≡◌, ap, ◌∙◌}
use native.Mathlib.Omega.{arith}
use Rattle.bounds.specs.Bounds.{most_capacity}
use Rattle.network.specs.Network.{Network, tail, head, capacity}
use Rattle.network.specs.Parts.{of_arcs}
use Rattle.network.specs.Verdict.{loose, outside, arc_conditions}
use Rattle.network.proofs.Bounds.{loose-of}
use Rattle.network.proofs.First.{decides, passes, none_left}
use Rattle.network.proofs.Search.{search-all, search-ends, search-stops, search-goes-on}
use Rattle.checks.proofs.items.check_arcs.Goals as goal
use Rattle.checks.proofs.items.check_arcs.Goals.{After-loose, After-outside, At-loop-e}

-- the network, and the present arc's two tests as the definition has them
abbrev net : At-loop-e → Network
net c =
    let args = c.args in
    of_arcs args.n args.tails.now args.heads.now args.capacities.now

loose-tested : (c : After-loose) →
    c.loose.result ≡ loose (net (goal.at.After-loose c).At-loop-e).nodes (tail (net (goal.at.After-loose c).At-loop-e) c.loop-e.e) (head (net (goal.at.After-loose c).At-loop-e) c.loop-e.e)
loose-tested c = loose-of _ c.loose.ensures c.at.ensures c.at-in-loop-e.ensures

capacity-tested : (c : After-outside) →
    c.outside.result ≡ outside 1 most_capacity (capacity (net (goal.at.After-outside c).At-loop-e) c.loop-e.e)
capacity-tested c = c.outside.ensures ∙ ap (outside 1 most_capacity) c.at-in-loop-e-2.ensures

pub loop-e-init : goal.loop-e-init
loop-e-init c = search-all _ _

pub loop-e-preserved : goal.loop-e-preserved
unfolding arc_conditions
loop-e-preserved c =
    search-goes-on _ _ _ (omega arith)
    (passes _ _ (loose-tested (goal.at.loop-e-preserved c).After-loose) c.if-loose.false
    (passes _ _ (capacity-tested (goal.at.loop-e-preserved c).After-outside) c.if-outside.false none_left)) ∙
    c.loop-e.invariant

pub returns-then-e-tails : goal.returns-then-e-tails
returns-then-e-tails c = search-ends _ _ _ c.if-e-tails.true ∙ c.loop-e.invariant

pub returns-then-loose : goal.returns-then-loose
unfolding arc_conditions
returns-then-loose c = search-stops _ _ _ (omega arith) (decides _ (loose-tested (goal.at.returns-then-loose c).After-loose) c.if-loose.true) ∙ c.loop-e.invariant

pub returns-then-outside : goal.returns-then-outside
unfolding arc_conditions
returns-then-outside c =
    search-stops _ _ _ (omega arith)
    (passes _ _ (loose-tested (goal.at.returns-then-outside c).After-loose) c.if-loose.false
    (decides _ (capacity-tested (goal.at.returns-then-outside c).After-outside) c.if-outside.true)) ∙
    c.loop-e.invariant
