-- What the roundings cost one length: growth by y / b and halving, both rounded up, from either side.
-- Assumes nothing.
use Prim.Native.Nat.{ℕ, zero, suc, ◌+◌, ◌*◌, ◌≤◌, ◌<◌}
use native.Mathlib.Nat.{mul-le-mul_left, lt_of_mul-lt-mul_left, zero-lt-suc}
use native.Mathlib.Omega.{arith}
use Rattle.arith.specs.Ceiling.{ceil}
use Rattle.arith.proofs.Ceilings.{ceil-above, ceil-below}

-- A factor of a positive product is positive.
pub factor-pos : (m n : ℕ) → 0 < m * n → 0 < n
factor-pos m zero h = omega arith
factor-pos m (suc n) h = zero-lt-suc n

-- Growth loses nothing.
pub grown-low : (l y b : ℕ) → 0 < b → l * (b + y) ≤ b * (l + ceil (l * y) b)
grown-low l y b h = omega (arith, ceil-above (l * y) b h)

-- Growth gains less than 1.
pub grown-high : (l y b : ℕ) → 0 < b → b * (l + ceil (l * y) b) ≤ l * (b + y) + b
grown-high l y b h = omega (arith, ceil-below (l * y) b h)

-- A length at most doubles.
pub grown-double : (l y b : ℕ) → 0 < b → y ≤ b → l + ceil (l * y) b ≤ 2 * l
grown-double l y b h k =
    let r : ceil (l * y) b < suc l = lt_of_mul-lt-mul_left b (omega (arith, ceil-below (l * y) b h, mul-le-mul_left l k)) in
    omega arith

-- Halving loses nothing, and gains at most one half.
pub half-low : (x : ℕ) → x ≤ 2 * ceil x 2
half-low x = ceil-above x 2 (zero-lt-suc 1)

pub half_high : (x : ℕ) → 2 * ceil x 2 ≤ x + 1
half_high x = omega (arith, ceil-below x 2 (zero-lt-suc 1))

-- The start length of a capacity is positive and at most the scale.
pub quotient-pos : (s c : ℕ) → 0 < c → 0 < s → 0 < ceil s c
quotient-pos s c h p = factor-pos c (ceil s c) (omega (arith, ceil-above s c h))

pub quotient_le : (s c : ℕ) → 0 < c → ceil s c ≤ s
quotient_le s c h =
    let r : ceil s c < suc s = lt_of_mul-lt-mul_left c (omega (arith, ceil-below s c h, mul-le-mul_left s h)) in
    omega arith
