-- One relation that does the work of logarithms (docs/GUARANTEE.md, "The argument", step 2), and
-- its rules: the only place where powers are multiplied out. Assumes nothing.
use mathlib.Core.Path.{◌≡◌, ap, sym, ◌∙◌}
use Prim.Native.Nat.{ℕ, ◌+◌, ◌*◌, ◌^◌, ◌≤◌, ◌<◌}
use native.Mathlib.Nat.{mul_comm, mul-pos, mul-le-mul, mul-le-mul_right, pow-le-pow_left, le_trans, le_of_mul-le-mul_left}
use native.Mathlib.Omega.{arith}
use lib.Pow.{pow-add}
use Rattle.arith.proofs.Powers.{mul-pow, pow-mul, pow_pos, exponent-le}

-- u / v is at most (b / a) ^ (x / y)
pub record PowerAtMost (a b u v x y : ℕ) : Type 0 where
  pub le : u ^ y * a ^ x ≤ v ^ y * b ^ x

-- two exponents exchanged
pow-swap : (a m n : ℕ) → (a ^ m) ^ n ≡ (a ^ n) ^ m
pow-swap a m n = sym (pow-mul a m n) ∙ ap (λ k. a ^ k) (mul_comm m n) ∙ pow-mul a n m

-- Two fractions under one root.
pub product : {a b u v x u' v' x' y : ℕ} → PowerAtMost a b u v x y → PowerAtMost a b u' v' x' y → PowerAtMost a b (u * u') (v * v') (x + x') y
product {a} {b} {u} {v} {x} {u'} {v'} {x'} {y} h k =
    record { le = simp (mul-pow, pow-add) (omega (arith, mul-le-mul h.le k.le)) }

-- Numerator and denominator of the exponent times k.
pub scale : {a b u v x y : ℕ} (k : ℕ) → PowerAtMost a b u v x y → PowerAtMost a b u v (x * k) (y * k)
scale {a} {b} {u} {v} {x} {y} k h = record { le = simp pow-mul (simp mul-pow at (pow-le-pow_left h.le k)) }

-- A fraction to the power k.
pub power : {a b u v x y : ℕ} (k : ℕ) → PowerAtMost a b u v x y → PowerAtMost a b (u ^ k) (v ^ k) (x * k) y
power {a} {b} {u} {v} {x} {y} k h =
    record { le = rw (pow-swap u k y, pow-swap v k y, pow-mul a, pow-mul b) (simp mul-pow at (pow-le-pow_left h.le k)) }

-- weaken and its powers, as plain numbers
through : (u u' v v' a b : ℕ) → u * v' ≤ u' * v → u' * a ≤ v' * b → v' * (u * a) ≤ v' * (v * b)
through u u' v v' a b h k = le_trans {m = u' * a * v} (omega (arith, mul-le-mul_right a h)) (omega (arith, mul-le-mul_right v k))

-- A smaller fraction is at most what a larger one is.
pub weaken : {a b u v u' v' x y : ℕ} → u * v' ≤ u' * v → 0 < v' → PowerAtMost a b u' v' x y → PowerAtMost a b u v x y
weaken {a} {b} {u} {v} {u'} {v'} {x} {y} l p h =
    record {
      le =
          le_of_mul-le-mul_left
          (through (u ^ y) (u' ^ y) (v ^ y) (v' ^ y) (a ^ x) (b ^ x) (simp mul-pow at (pow-le-pow_left l y)) h.le)
          (pow_pos y p);
    }

passing : (u v a b c d : ℕ) → u * a ≤ v * b → b * c ≤ a * d → a * b * (u * c) ≤ a * b * (v * d)
passing u v a b c d h k = omega (arith, mul-le-mul h k)

-- The base of a bound exchanged for another that bounds it.
pub chain : {a b a' b' u v x y z : ℕ} → 0 < a → 0 < b → PowerAtMost a b u v x y → PowerAtMost a' b' b a z x → PowerAtMost a' b' u v z y
chain {a} {b} {a'} {b'} {u} {v} {x} {y} {z} p q h k =
    record {
      le =
          le_of_mul-le-mul_left
          (passing (u ^ y) (v ^ y) (a ^ x) (b ^ x) (a' ^ z) (b' ^ z) h.le k.le)
          (mul-pos (pow_pos x p) (pow_pos x q));
    }

across : (u v a b c d : ℕ) → v * b ≤ u * a → u * c ≤ v * d → u * v * (b * c) ≤ u * v * (a * d)
across u v a b c d h k = omega (arith, mul-le-mul h k)

-- A fraction that is at least one power of b / a and at most another orders the exponents.
pub compare : {a b u v x y Y c : ℕ} → 0 < a → a < b → 0 < u → 0 < v → PowerAtMost b a v u Y c → PowerAtMost a b u v x y → Y * y ≤ x * c
compare {a} {b} {u} {v} {x} {y} {Y} {c} pa ab pu pv h k =
    exponent-le (Y * y) (x * c) pa ab
    (le_of_mul-le-mul_left
    (across (u ^ (c * y)) (v ^ (c * y)) (a ^ (Y * y)) (b ^ (Y * y)) (a ^ (x * c)) (b ^ (x * c)) (scale y h).le (rw (mul_comm y c) at (scale c k).le))
    (mul-pos (pow_pos (c * y) pu) (pow_pos (c * y) pv)))
