-- `arith::wide::Wide::less` meets its contract. The invariant is `Level`: from place i up the two write the same.
-- Assumes nothing.
use Rattle.arith.proofs.Comparing.{Level}
use Rattle.arith.proofs.wide.Wide.less.Given as goal

abbrev pub invariant-loop-i : goal.invariant-loop-i
invariant-loop-i l = Level l.self.limbs l.other.limbs l.i
