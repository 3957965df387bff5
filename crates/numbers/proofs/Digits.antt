-- Laws of the n lowest base-256 digits of a number: how many, how large, their parts, and which of std's.
-- Assumes nothing.
use mathlib.Core.Path.{◌≡◌, refl, ap}
use Prim.Native.Nat.{ℕ, zero, suc, ◌+◌, ◌/◌, ◌%◌, ◌^◌}
use mathlib.Core.List.{List, ◌∷◌, ◌++◌}
use native.Mathlib.Nat.{zero-add, suc-add, div-one, pow-succ', div-div-eq-div-mul}
use native.Mathlib.Omega.{arith}
use lib.ListN.{length}
use Rattle.std.specs.Int.{w64, to_le_bytes}
use Rattle.numbers.specs.Digits.{to_bytes}
use Rattle.numbers.specs.Parts.{Bytes}

pub length_digits : (n x : ℕ) → length (to_bytes n x) ≡ n
unfolding to_bytes
length_digits zero x = refl
length_digits (suc n) x = ap suc (length_digits n (x / 256))

-- Every digit is a byte.
pub digits-bytes : (n x : ℕ) → Bytes (to_bytes n x)
unfolding to_bytes
digits-bytes zero x i = omega arith
digits-bytes (suc n) x zero = omega arith
digits-bytes (suc n) x (suc i) = digits-bytes n (x / 256) i

-- The lowest m + n digits are the lowest m, and then the lowest n of what is left.
pub digits_append : (m n x : ℕ) → to_bytes (m + n) x ≡ to_bytes m x ++ to_bytes n (x / 256 ^ m)
unfolding to_bytes
digits_append zero n x = rw (zero-add, div-one)
digits_append (suc m) n x =
    rw (suc-add, pow-succ', ← div-div-eq-div-mul) (ap (λ (ds : List ℕ). (x % 256) ∷ ds) (digits_append m n (x / 256)))

-- The eight bytes of a number of 64 bits.
pub digits-std : (x : ℕ) → to_le_bytes w64 x ≡ to_bytes 8 x
unfolding to_bytes
digits-std x = simp div-div-eq-div-mul
