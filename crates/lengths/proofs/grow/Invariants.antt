-- `lengths::grow` meets its contract: the lengths are grown along the arcs passed, with D and the test of the mark
-- carried along. Assumes nothing.
use Rattle.lengths.proofs.Lengthened.{Lengthened}
use Rattle.lengths.proofs.grow.Given as goal

abbrev pub invariant-loop-e : goal.invariant-loop-e
invariant-loop-e l =
    Lengthened l.capacities l.initial.lengths l.q l.g l.path l.e-index l.lengths l.d l.marked
