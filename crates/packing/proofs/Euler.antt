-- `euler` of docs/GUARANTEE.md, "The argument", step 2: no number (1 + 1 / n) ^ n exceeds a number
-- (1 + 1 / m) ^ (m + 1), since e lies between them. Assumes nothing.
use mathlib.Core.Path.{◌≡◌}
use Prim.Native.Nat.{ℕ, suc, ◌+◌, ◌*◌, ◌^◌, ◌≤◌, ◌<◌}
use native.Mathlib.Nat.{le_of_mul-le-mul_left, mul-pos, zero-lt-suc}
use native.Mathlib.Omega.{arith}
use lib.Pow.{pow-add}
use Rattle.arith.proofs.Powers.{mul-pow, pow_pos}
use Rattle.packing.proofs.PowerAtMost.{PowerAtMost}
use Rattle.packing.proofs.Mean.{mean}

-- the powers as plain numbers; what the mean says, with the common factors b, d and z
cancel : (a b c d x y z : ℕ) → 0 < b → 0 < d → 0 < z → a * b * (c * d) * z ≤ x * d * (b * y) * z → a * c ≤ x * y
cancel a b c d x y z p q r h = le_of_mul-le-mul_left {k = b * d * z} (omega arith) (mul-pos (mul-pos p q) r)

-- (1 + 1 / n) ^ n is at most (1 + 1 / m) ^ (m + 1).
pub euler : (n m : ℕ) → 0 < n → PowerAtMost m (suc m) (suc n) n (suc m) n
euler n m h =
    let k : ℕ = n + suc m in
    let e : n * (suc n * suc m) + suc m * (m * n) ≡ n * suc m * k = omega arith in
    record {
      le =
          cancel (suc n ^ n) (suc m ^ n) (m ^ suc m) (n ^ suc m) (n ^ n) (suc m ^ suc m) (k ^ n * k ^ suc m)
          (pow_pos n (zero-lt-suc m)) (pow_pos (suc m) h) (mul-pos (pow_pos n (omega arith)) (pow_pos (suc m) (omega arith)))
          (simp (mul-pow, pow-add) at (rw e at (mean n (suc m) (suc n * suc m) (m * n))));
    }
