-- `arith::wide::Wide::times_plus` meets its contract. The invariant is `Carried`: i limbs of self * k + other stand in r, and one number is carried.
-- Assumes nothing.
use native.Mathlib.Numerals.{add-one}
use native.Mathlib.Omega.{arith}
use Rattle.arith.proofs.Carries.{carried-start, carried_step, carried-end}
use Rattle.arith.proofs.wide.Wide.times_plus.Goals as goal

pub loop-i-init : goal.loop-i-init
loop-i-init c = carried-start _ _ _

pub loop-i-preserved : goal.loop-i-preserved
loop-i-preserved c =
    let p = c.requires in
    rw add-one (carried_step p.0 p.1 p.2 (omega arith) c.loop-i.invariant)

pub returns : goal.returns
returns c =
    let p = c.requires in
    carried-end c.loop-i.invariant p.0 p.1 (omega arith) p.3
