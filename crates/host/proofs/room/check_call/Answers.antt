-- `host::room::check_call` meets its contract: the sizes before 5, and 5 before 16 and 11. Assumes nothing.
use mathlib.Core.Path.{sym, ◌∙◌}
use Rattle.network.proofs.Decided.{accepted-quiet}
use Rattle.network.proofs.First.{refused-handed, accepted-first, decides, passes}
use Rattle.network.proofs.Sizes.{sizes-kept}
use Rattle.call.specs.Deliver.{slices}
use Rattle.call.specs.Host.{Slices, host_conditions}
use Rattle.call.proofs.Hosts.{room}
use Rattle.host.proofs.room.check_call.Goals as goal
use Rattle.host.proofs.room.check_call.Goals.{Start}

abbrev lent : Start → Slices
lent s = slices s.args.tables.now.flow.now s.args.tables.now.lengths.now s.args.tables.now.answer.now s.args.counts.now

pub returns-in_err-check_sizes : goal.returns-in_err-check_sizes
returns-in_err-check_sizes c = refused-handed _ _ c.check_sizes.ensures c.in_err-check_sizes.was c.from_residual.ensures.1

pub short-requires : goal.short-requires
short-requires c =
    let k = sizes-kept _ _ _ _ _ (accepted-quiet _ (sym c.check_sizes.ensures ∙ c.in_ok-check_sizes.was)) in
    (k.of-commodities.most, k.of-arcs.most)

pub returns-then-short : goal.returns-then-short
unfolding host_conditions
returns-then-short c =
    accepted-first _ _ c.check_sizes.ensures c.in_ok-check_sizes.was (decides _ c.short.ensures c.if-short.true)

pub check_office-requires : goal.check_office-requires
check_office-requires c =
    (room _ _ _ _ (lent (goal.at.check_office-requires c).Start) (sym c.short.ensures ∙ c.if-short.false)).2

pub returns : goal.returns
unfolding host_conditions
returns c =
    accepted-first _ _ c.check_sizes.ensures c.in_ok-check_sizes.was (passes _ _ c.short.ensures c.if-short.false c.check_office.ensures)
