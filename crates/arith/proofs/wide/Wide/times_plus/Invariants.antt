-- `arith::wide::Wide::times_plus` meets its contract. The invariant is `Carried`: i limbs of self * k + other stand in r, and one number is carried.
-- Assumes nothing.
use Rattle.arith.proofs.Carries.{Carried}
use Rattle.arith.proofs.wide.Wide.times_plus.Given as goal

abbrev pub invariant-loop-i : goal.invariant-loop-i
invariant-loop-i l = Carried l.k l.self.limbs l.other.limbs l.r l.carry l.i
