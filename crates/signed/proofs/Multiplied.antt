-- An amount times a whole number: both parts are multiplied by it. Assumes nothing.
use mathlib.Core.Path.{◌≡◌, refl}
use Prim.Native.Nat.{ℕ, zero, suc, ◌*◌}
use native.Mathlib.Omega.{arith}
use lib.IntN.{ℤ, pos, negsuc, neg_ℤ, ◌*ℤ◌}
use Rattle.signed.specs.Signed.{ahead, back}

ahead-neg : (n : ℕ) → ahead (neg_ℤ (pos n)) ≡ 0
unfolding ahead
ahead-neg zero = refl
ahead-neg (suc n) = refl

back-neg : (n : ℕ) → back (neg_ℤ (pos n)) ≡ n
unfolding back
back-neg zero = refl
back-neg (suc n) = refl

pub ahead-times : (a : ℕ) (x : ℤ) → ahead (pos a *ℤ x) ≡ a * ahead x
unfolding ahead
ahead-times a (pos n) = refl
ahead-times a (negsuc n) = omega (arith, ahead-neg (a * suc n))

pub back-times : (a : ℕ) (x : ℤ) → back (pos a *ℤ x) ≡ a * back x
unfolding back
back-times a (pos n) = omega arith
back-times a (negsuc n) = back-neg (a * suc n)
