-- Products for a wide number: by the two limbs of a factor, and how large they can be.
-- Assumes nothing.
use mathlib.Core.Path.{◌≡◌, ap}
use Prim.Native.Nat.{ℕ, ◌+◌, ◌*◌, ◌/◌, ◌%◌, ◌^◌, ◌<◌}
use native.Mathlib.Nat.{div-add-mod, mul-le-mul, le_of_lt, lt_of_le_of_lt}
use native.Mathlib.Omega.{arith}
use lib.Dec.{lit<}
use Rattle.arith.specs.Limbs.{base, limit}

-- The low limb's product, and the high limb's one place up, are the whole product.
pub split-product : (v k : ℕ) → v * (k % base) + base * (v * (k / base)) ≡ v * k
split-product v k = omega (arith, ap (λ t. v * t) (div-add-mod k base))

-- 80 bits times 64 bits fit a wide number.
pub product-fits : (a b : ℕ) → a < 2 ^ 80 → b < 2 ^ 64 → a * b < limit
unfolding limit
product-fits a b ha hb = lt_of_le_of_lt (mul-le-mul (le_of_lt ha) (le_of_lt hb)) (lit< tt)
