-- `site::solve_floors` meets its contract. The loop's invariant: the floors before i are sent, and each table has its length. The measure is what is
-- left of k. Assumes nothing.
use Rattle.call.specs.Deliver.{slices}
use Rattle.site.specs.Turns.{site, FloorsServed}
use Rattle.site.proofs.solve_floors.Given as goal

abbrev pub invariant-loop-i : goal.invariant-loop-i
invariant-loop-i l =
    let old = slices l.initial.flow l.initial.lengths l.initial.answers l.initial.counts in
    let new = slices l.flow l.lengths l.answers l.counts in
    FloorsServed (site l.office l.floors l.floor.belts.now l.floor.pairs.now l.floor.limits.now) l.i old new
