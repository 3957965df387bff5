-- `lengths::halve` meets its contract: the first e lengths are halved, with their part of D, and the others are as they
-- were. Assumes nothing.
use mathlib.Core.List.{map}
use Rattle.length.specs.Length.{halving}
use Rattle.lengths.proofs.Weighed.{Weighing}
use Rattle.lengths.proofs.halve.Given as goal

abbrev pub invariant-loop-e : goal.invariant-loop-e
invariant-loop-e l = Weighing (map halving l.initial.lengths) l.capacities l.initial.lengths l.e l.lengths l.d
