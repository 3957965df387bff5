-- `whole::sent::leaves` meets its contract. The loop's invariant: the total is the sum over the arcs before e.
-- Assumes nothing.
use mathlib.Core.Path.{◌≡◌}
use Rattle.arith.specs.Sum.{sum}
use Rattle.whole.proofs.Leaves.{over}
use Rattle.whole.proofs.sent.leaves.Given as goal

abbrev pub invariant-loop-e : goal.invariant-loop-e
invariant-loop-e l = l.total ≡ sum l.e (over l.belts l.flow l.from l.v)
