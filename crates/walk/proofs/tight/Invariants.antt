-- `walk::tight` meets its contract: no place passed has a tight arc.
-- Assumes nothing.
use Rattle.paths.proofs.Passing.{Passing}
use Rattle.walk.proofs.tight.Given as goal

abbrev pub invariant-loop-p : goal.invariant-loop-p
invariant-loop-p l = Passing l.out l.lengths l.dist l.v l.p
