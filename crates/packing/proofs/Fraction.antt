-- The least fraction: what is at most the new least fraction is at most the old one and at most the one just met.
-- Passing from one to the other cancels a length, so lengths of columns must be positive. Assumes nothing.
use Prim.Native.Nat.{ℕ, ◌*◌, ◌≤◌, ◌<◌}
use native.Mathlib.Nat.{le_trans, lt_of_lt_of_le, mul-pos, mul-le-mul_right, le_of_mul-le-mul_left}
use native.Mathlib.Omega.{arith}
use Rattle.packing.proofs.Rounding.{factor-pos}
use Rattle.packing.proofs.Run.{Least}

-- b / a is at most d / e, by way of x / y, where y is positive
fraction-trans : (b a x y d e : ℕ) → 0 < y → b * y ≤ x * a → x * e ≤ d * y → b * e ≤ d * a
fraction-trans b a x y d e p h k =
    le_of_mul-le-mul_left {k = y} (le_trans {m = x * a * e} (omega (arith, mul-le-mul_right e h)) (omega (arith, mul-le-mul_right a k))) p

-- where an old fraction x / y is held it is no start value
held-pos : (d e x y : ℕ) → 0 < x → 0 < e → x * e ≤ d * y → 0 < y
held-pos d e x y p k h = factor-pos d y (lt_of_lt_of_le (mul-pos p k) h)

module _ {D a B A B' A' : ℕ} (old : 0 < B) (pos : 0 < a) where
  -- From here on: the new fraction B' / A' after D / a.
  pub alpha-pos : Least D a B A B' A' → 0 < A'
  alpha-pos (Least.smaller h e f) = omega (arith, f)
  alpha-pos (Least.held h e f) = omega (arith, f, held-pos D a B A old pos h)

  pub bound-pos : Least D a B A B' A' → 0 < D → 0 < B'
  bound-pos (Least.smaller h e f) d = omega (arith, e)
  bound-pos (Least.held h e f) d = omega (arith, e)

  -- What is at most the new fraction is at most the old one ..
  pub at-most-old : Least D a B A B' A' → (b x : ℕ) → b * A' ≤ B' * x → b * A ≤ B * x
  at-most-old (Least.smaller h e f) b x k = fraction-trans b x D a B A pos (rw (e, f) at k) (omega (arith, h))
  at-most-old (Least.held h e f) b x k = rw (e, f) at k

  -- .. and at most the one just met.
  pub at-most-met : Least D a B A B' A' → (b x : ℕ) → b * A' ≤ B' * x → b * a ≤ D * x
  at-most-met (Least.smaller h e f) b x k = rw (e, f) at k
  at-most-met (Least.held h e f) b x k = fraction-trans b x B A D a (held-pos D a B A old pos h) (rw (e, f) at k) h
