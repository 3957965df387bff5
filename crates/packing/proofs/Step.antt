-- One iteration's lengths as the few inequalities that the guarantee needs
-- (docs/GUARANTEE.md, "The argument", step 3).
-- Halving appears here and nowhere after: a step multiplies the lengths by 1 or 2 besides. Assumes nothing.
use mathlib.Core.Path.{◌≡◌, ap}
use Prim.Native.Nat.{ℕ, ◌+◌, ◌*◌, ◌^◌, ◌≤◌, ◌<◌}
use native.Mathlib.Nat.{le_trans, mul-pos, mul-le-mul, mul-le-mul_left, mul-le-mul_right}
use native.Mathlib.Omega.{arith}
use Rattle.arith.specs.Ceiling.{ceil}
use Rattle.arith.specs.Sum.{sum}
use Rattle.arith.proofs.Sums.{sum-le, term-le-sum}
use Rattle.packing.proofs.Capacity.{capacity-all}
use Rattle.packing.proofs.Program.{Program}
use Rattle.packing.proofs.Rounding.{grown-low, grown-high, grown-double, half-low, half_high}
use Rattle.packing.proofs.Run.{volume, grown, Lengths}

-- What every length table of a run keeps to: between 1 and the mark, and so large that the roundings stay small.
pub record Healthy (m : ℕ) (c l : ℕ → ℕ) : Type 0 where
  pub positive : (e : ℕ) → e < m → 1 ≤ l e
  pub below : (e : ℕ) → e < m → l e < 2 ^ 40
  pub large : 2 ^ 21 * sum m c ≤ volume m c l

-- From the lengths l to the lengths l' by draws y; factor is 2 if they were halved, otherwise 1.
pub record Step (m q : ℕ) (c l y l' : ℕ → ℕ) : Type 0 where
  pub factor : ℕ
  pub factor-pos : 0 < factor
  pub low : (e : ℕ) → e < m → l e * (q * c e + y e) ≤ q * c e * (factor * l' e)
  pub high : (e : ℕ) → e < m → q * c e * (factor * l' e) ≤ l e * (q * c e + y e) + 2 * (q * c e)
  pub healthy : Healthy m c l'

-- one length halved, with b for q * c and r for the grown length
halved-low : (b l y r x : ℕ) → l * (b + y) ≤ b * r → r ≤ 2 * x → l * (b + y) ≤ b * (2 * x)
halved-low b l y r x h k = le_trans h (mul-le-mul_left b k)

halved-high : (b l y r x : ℕ) → b * r ≤ l * (b + y) + b → 2 * x ≤ r + 1 → b * (2 * x) ≤ l * (b + y) + 2 * b
halved-high b l y r x h k = omega (arith, mul-le-mul_left b k)

module _ {m q L : ℕ} {c : ℕ → ℕ} (p : Program m q L c) (l y : ℕ → ℕ) (within : (e : ℕ) → e < m → y e ≤ c e) (h : Healthy m c l) where
  divisor-pos : (e : ℕ) → e < m → 0 < q * c e
  divisor-pos e b = mul-pos (omega (arith, p.precision-low)) (p.capacity-low e b)

  fits : (e : ℕ) → e < m → y e ≤ q * c e
  fits e b = omega (arith, within e b, mul-le-mul_right (c e) p.precision-low)

  -- A draw at most doubles a length.
  pub double : (e : ℕ) → e < m → grown q c l y e ≤ 2 * l e
  double e b = grown-double (l e) (y e) (q * c e) (divisor-pos e b) (fits e b)

  -- The inequalities of a step, whether its lengths were halved or not.
  pub step_of : (l' : ℕ → ℕ) → Lengths m (grown q c l y) l' → Step m q c l y l'
  step_of l' (Lengths.kept below same) = record {
    factor = 1;
    factor-pos = omega arith;
    low = λ e b. omega (arith, same e b, grown-low (l e) (y e) (q * c e) (divisor-pos e b), ap (λ x. q * c e * x) (same e b));
    high = λ e b. omega (arith, grown-high (l e) (y e) (q * c e) (divisor-pos e b), ap (λ x. q * c e * x) (same e b));
    healthy = record {
      positive = λ e b. omega (arith, h.positive e b, same e b);
      below = λ e b. omega (arith, below e b, same e b);
      large = le_trans h.large (sum-le m (λ e. c e * l e) (λ e. c e * l' e) (λ e b. mul-le-mul_left (c e) (omega (arith, same e b))));
    };
  }
  step_of l' (Lengths.halved k inside high same) = record {
    factor = 2;
    factor-pos = omega arith;
    low = λ e b. halved-low (q * c e) (l e) (y e) (grown q c l y e) (l' e) (grown-low (l e) (y e) (q * c e) (divisor-pos e b))
        (omega (arith, half-low (grown q c l y e), same e b));
    high = λ e b. halved-high (q * c e) (l e) (y e) (grown q c l y e) (l' e) (grown-high (l e) (y e) (q * c e) (divisor-pos e b))
        (omega (arith, half_high (grown q c l y e), same e b));
    healthy = record {
      positive = λ e b. omega (arith, h.positive e b, same e b, half-low (grown q c l y e));
      below = λ e b. omega (arith, h.below e b, same e b, half_high (grown q c l y e), double e b);
      large = omega (arith, capacity-all p, term-le-sum m (λ e. c e * l' e) k inside, mul-le-mul (p.capacity-low k inside) (halved-large k inside high same));
    };
  }
    where
      halved-large : (k : ℕ) (b : k < m) → 2 ^ 40 ≤ grown q c l y k → ((e : ℕ) → e < m → l' e ≡ ceil (grown q c l y e) 2) → 2 ^ 39 ≤ l' k
      halved-large k b high same = omega (arith, same k b, half-low (grown q c l y k))
