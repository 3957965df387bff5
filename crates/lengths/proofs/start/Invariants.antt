-- `lengths::start` meets its contract: the first e lengths are at their start, with their part of D.
-- Assumes nothing.
use Rattle.lengths.specs.Results.{first_lengths}
use Rattle.lengths.proofs.Weighed.{Weighing}
use Rattle.lengths.proofs.start.Given as goal

abbrev pub invariant-loop-e : goal.invariant-loop-e
invariant-loop-e l = Weighing (first_lengths l.capacities) l.capacities l.initial.lengths l.e l.lengths l.d
