-- What a draw may add to the volume, as a power of 1 + 1 / q: `one-growth` of docs/GUARANTEE.md,
-- "The argument", step 2, with the computed test of the 13 precisions. Assumes nothing.
use mathlib.Core.Bool.{Bool}
use Prim.Native.Nat.{ℕ, zero, suc, ◌+◌, ◌*◌, ◌^◌, ◌≤◌, ◌<◌}
use native.Mathlib.Nat.{pow-zero, pow-suc, le_dest, zero-lt-suc, mul_comm, mul-le-mul_right}
use native.Mathlib.Omega.{arith}
use lib.Dec.{T, leb, leb→le}
use Rattle.arith.proofs.Powers.{pow_pos}
use Rattle.packing.proofs.PowerAtMost.{PowerAtMost, scale, power, weaken, chain}
use Rattle.packing.proofs.Euler.{euler}
use Rattle.packing.proofs.Every.{every, every-at}

-- the test at the precision q = 4 + k
test : ℕ → Bool
test k = leb (65 ^ 520 * (4 + k) ^ (8 * (4 + k) + 5)) (64 ^ 520 * (4 + k + 1) ^ (8 * (4 + k) + 5))

passes : T (every test 13)
unfolding test
passes = tt

tested : (k : ℕ) → k < 13 → PowerAtMost (4 + k) (4 + k + 1) 65 64 (8 * (4 + k) + 5) 520
unfolding test
tested k h = record { le = leb→le _ _ (every-at test 13 passes k h) }

-- e is at most (1 + 1 / q) ^ (q + 5 / 8), by way of (65 / 64) ^ 65.
finite : (q : ℕ) → 4 ≤ q → q ≤ 16 → PowerAtMost q (q + 1) 65 64 (8 * q + 5) 520
finite q h l = let d = le_dest h in rw d.1 at (tested d.0 (omega (arith, d.1)))

-- Bernoulli's inequality
bernoulli : (n a : ℕ) → (n + a) * n ^ a ≤ suc n ^ a * n
bernoulli n zero = simp pow-zero (omega arith)
bernoulli n (suc a) = simp pow-suc (bernoulli-step (n ^ a) (suc n ^ a) (bernoulli n a))
  where
    bernoulli-step : (u v : ℕ) → (n + a) * u ≤ v * n → (n + suc a) * (u * n) ≤ v * suc n * n
    bernoulli-step u v h = omega (arith, mul-le-mul_right (suc n) h)

-- (n + a) / n is at most (1 + 1 / q) ^ ((8 * q + 5) * a / (8 * n)).
pub one-growth : (q n a : ℕ) → 4 ≤ q → q ≤ 16 → 0 < n → PowerAtMost q (q + 1) (n + a) n ((8 * q + 5) * a) (8 * n)
one-growth q n a h l p =
    rw (mul_comm 8 n) (weaken (bernoulli n a) (pow_pos a p)
    (power a (chain (zero-lt-suc 63) (zero-lt-suc 64) (scale 8 (euler n 64 p)) (finite q h l))))
