-- How far a rounding goes: each length is at least the exact quotient, and less than one above it. Said without division.
-- Assumes nothing.
use Prim.Native.Nat.{ℕ, ◌+◌, ◌*◌, ◌≤◌, ◌<◌}
use native.Mathlib.Nat.{mul-pos}
use native.Mathlib.Omega.{arith}
use Rattle.arith.proofs.Ceilings.{ceil-above, ceil-below}
use Rattle.length.specs.Length.{scale, start, growth, halving}

-- start c is at least scale / c,
pub start-above : (c : ℕ) → 1 ≤ c → scale ≤ c * start c
unfolding start
start-above c h = ceil-above scale c h

-- and less than one more.
pub start-below : (c : ℕ) → 1 ≤ c → c * start c < scale + c
unfolding start
start-below c h = ceil-below scale c h

-- growth is at least l * (1 + g / (q * c)),
pub growth-above : (q g c l : ℕ) → 1 ≤ q → 1 ≤ c → l * (q * c + g) ≤ growth q g c l * (q * c)
unfolding growth
growth-above q g c l hq hc = omega (arith, ceil-above (l * g) (q * c) (mul-pos hq hc))

-- and less than one more.
pub growth-below : (q g c l : ℕ) → 1 ≤ q → 1 ≤ c → growth q g c l * (q * c) < l * (q * c + g) + q * c
unfolding growth
growth-below q g c l hq hc = omega (arith, ceil-below (l * g) (q * c) (mul-pos hq hc))

-- halving is at least l / 2,
pub halving-above : (l : ℕ) → l ≤ 2 * halving l
unfolding halving
halving-above l = ceil-above l 2 (omega arith)

-- and at most half more.
pub halving-below : (l : ℕ) → 2 * halving l ≤ l + 1
unfolding halving
halving-below l = omega (arith, ceil-below l 2 (omega arith))
