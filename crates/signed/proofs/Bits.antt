-- Amounts and the bits that stand for them: which numbers have a cast, what -1 - x is of a negative amount, and that
-- bits read back are the amount. Assumes nothing.
use mathlib.Core.Path.{◌≡◌, ap}
use mathlib.Core.Bool.{true}
use Prim.Native.Nat.{ℕ, suc, ◌^◌, ◌<◌}
use native.Mathlib.Omega.{arith}
use borrow.Author.Tests.{ltb-true, le-ltb}
use lib.Dec.{T}
use lib.IntN.{ℤ, pos, negsuc, nat_abs, ◌-ℤ◌}
use lib.Signed.{mag, lt_z, non_neg}
use mir.Syntax.{w64}
use mir.Val.{Fits, SFits, to_z, of_z}
use mir.ValLaws.{to_z-of_z}

-- A number that is not negative has a cast.
pub cast_fits : {x : ℤ} {n : ℕ} → x ≡ pos n → n < 2 ^ 64 → T (non_neg x) × Fits w64 (nat_abs x)
cast_fits e h = rw e (tt, record { fits = h })

one_less : (x : ℤ) → lt_z x (pos 0) ≡ true → negsuc 0 -ℤ x ≡ pos (mag x)
one_less (pos n) t = absurd (omega (arith, ltb-true))
one_less (negsuc n) t = rw (le-ltb (suc n) 1 (omega arith)) (ap pos (omega arith))

read_back : (x : ℤ) → SFits w64 x → to_z w64 (of_z w64 x) ≡ x
read_back x f = to_z-of_z w64 x f
