-- How large L and the threshold are: L is 1 to 92, the threshold at most 16 * 92.
-- Assumes nothing.
use mathlib.Core.Bool.{Bool}
use Prim.Native.Nat.{ℕ, ◌≤◌}
use native.Mathlib.Nat.{mul-le-mul, mul-le-mul_left}
use native.Mathlib.Omega.{arith}
use lib.Dec.{T, leb, leb→le}
use Rattle.length.specs.Level.{level, threshold}
use Rattle.length.specs.Levels.{levels}
use Rattle.length.proofs.Lookup.{tested, lookup}
use Rattle.length.proofs.Rule.{level-rule}

within : ℕ → ℕ → ℕ → Bool
within m q l = leb l 92

passes : T (tested within)
unfolding levels within
passes = tt

-- For every m and q of document 01's range
module _ (m q : ℕ) (m≥ : 1 ≤ m) (m≤ : m ≤ 256) (q≥ : 4 ≤ q) (q≤ : q ≤ 16) where
  pub level-positive : 1 ≤ level m q
  level-positive = (level-rule m q m≥ m≤ q≥ q≤).least

  pub level-most : level m q ≤ 92
  unfolding within
  level-most = leb→le (level m q) 92 (lookup within passes m q m≥ m≤ q≥ q≤)

  pub threshold-least : q ≤ threshold m q
  unfolding threshold
  threshold-least = omega (arith, mul-le-mul_left q level-positive)

  pub threshold-most : threshold m q ≤ 1472
  unfolding threshold
  threshold-most = mul-le-mul q≤ level-most
