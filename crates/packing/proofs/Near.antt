-- The guarantee: when choosing ends, the scaled total is near the bound
-- (docs/GUARANTEE.md, "The argument", step 7).
-- Let V = total * c(k) / load(k) and B = bound / alpha. `near` is V >= (8q - 9) / (8q + 5) * B, and
-- `near-share` is V >= (1 - r / (d * q)) * B for every r / d of at least 7 / 4
-- (docs/GUARANTEE.md, "How near"); so V >= (1 - 2 / q) * B. Assumes nothing.
use mathlib.Core.Path.{◌≡◌, ap}
use Prim.Native.Nat.{ℕ, suc, ◌+◌, ◌*◌, ◌-◌, ◌^◌, ◌≤◌, ◌<◌}
use native.Mathlib.Nat.{le_refl, le_trans, mul-pos, mul-le-mul_left, mul-le-mul_right, le_of_mul-le-mul_left}
use native.Mathlib.Omega.{arith}
use lib.Dec.{lit≤}
use Rattle.arith.proofs.Powers.{pow_pos}
use Rattle.arith.proofs.Sums.{term-le-sum}
use Rattle.packing.proofs.PowerAtMost.{product, scale, weaken, compare}
use Rattle.packing.proofs.Count.{count-all}
use Rattle.packing.proofs.Health.{healthy, positive-bound}
use Rattle.packing.proofs.Program.{Program}
use Rattle.packing.proofs.Run.{volume, State, Iteration, Run, Below}
use Rattle.packing.proofs.Sides.{Sides, sides}
use Rattle.packing.proofs.Slack.{slack}

-- u and z are the powers of 2 ^ 20 and 2 ^ 20 + 1
meet : (c w l D m S u z : ℕ) → c * l ≤ D → c * (w * l) * (m * S * z * u) ≤ w * D * u * (m * z) * S
meet c w l D m S u z h = omega (arith, mul-le-mul_right (w * m * S * z * u) h)

-- k is 8 * q - 9
conclude : (q L k c Y B A F : ℕ) → k + 9 ≡ 8 * q → q * L * c ≤ Y → Y * (8 * (q * B)) ≤ ((8 * q + 5) * (A * F) + L * 9 * (q * B)) * c →
    k * (B * Y) ≤ (8 * q + 5) * (F * c * A)
conclude q L k c Y B A F e h l = omega (arith, ap (λ z. z * (B * Y)) e, mul-le-mul_right (9 * B) h)

-- n / d is at most k / j
coarser : (n d k j x z : ℕ) → 0 < j → n * j ≤ d * k → k * x ≤ j * z → n * x ≤ d * z
coarser n d k j x z p h l = le_of_mul-le-mul_left {k = j} (le_trans {m = d * k * x} (omega (arith, mul-le-mul_right x h)) (omega (arith, mul-le-mul_left d l))) p

-- 1 - r / (d * q) is at most (8 * q - 9) / (8 * q + 5) if r / d is at least 7 / 4; n is d * q - r and k is 8 * q - 9
share : (q d r n k : ℕ) → 14 * d ≤ 8 * r → n + r ≡ d * q → k + 9 ≡ 8 * q → n * (8 * q + 5) ≤ d * q * k
share q d r n k h e f =
    omega (arith, mul-le-mul_right q h, ap (λ z. z * (8 * q + 5)) e, ap (λ z. d * q * z) f)

module _ {m q L : ℕ} {c : ℕ → ℕ} (p : Program m q L c) where
  -- both sides and the slack at a resource k
  meets : {t : State} → Run m q c t → t.count ≤ m * (q * L) → (k : ℕ) → k < m →
      t.load k * (8 * (q * t.bound)) ≤ ((8 * q + 5) * (t.alpha * t.total) + L * 9 * (q * t.bound)) * c k
  meets {t} r h k b =
      let v : Sides m q c t = sides p r in
      compare (omega (arith, p.precision-low)) (omega arith)
      (mul-pos (p.capacity-low k b) (mul-pos v.weight-pos ((healthy p r).positive k b))) (lit≤ tt) (v.lower k b)
      (weaken
      (meet (c k) v.weight (t.length k) (volume m c t.length) m (2 ^ 36) ((2 ^ 20) ^ suc t.count) ((2 ^ 20 + 1) ^ suc t.count)
      (term-le-sum m (λ e. c e * t.length e) k b))
      (mul-pos (mul-pos (mul-pos p.resources-low (lit≤ tt)) (pow_pos (suc t.count) (lit≤ tt))) (pow_pos (suc t.count) (lit≤ tt)))
      (product (v.upper t.bound t.alpha (positive-bound p r) (le_refl (t.bound * t.alpha))) (scale (q * t.bound) (slack p t.count h))))

  module _ {s t : State} (r : Run m q c s) (h : Below m q L c s) (i : Iteration m q c s t) (k : ℕ) (b : k < m) (full : q * L * c k ≤ t.load k) where
    -- V is at least (8 * q - 9) / (8 * q + 5) times B.
    pub near : (8 * q - 9) * (t.bound * t.load k) ≤ (8 * q + 5) * (t.total * c k * t.alpha)
    near =
        conclude q L (8 * q - 9) (c k) (t.load k) t.bound t.alpha t.total (omega (arith, p.precision-low)) full
        (meets (Run.next r i) (count-all p r h i) k b)

    -- V is at least (1 - r / (d * q)) * B where r / d is at least 7 / 4
    pub near-share : (d r Q : ℕ) → 14 * d ≤ 8 * r → r ≤ Q → Q ≡ d * q → (Q - r) * (t.bound * t.load k) ≤ Q * (t.total * c k * t.alpha)
    near-share d r Q l f e =
        coarser (Q - r) Q (8 * q - 9) (8 * q + 5) (t.bound * t.load k) (t.total * c k * t.alpha) (omega arith)
        (rw e (share q d r (d * q - r) (8 * q - 9) l (omega arith) (omega (arith, p.precision-low)))) near

    -- V is at least (1 - 2 / q) * B (demand 3)
    pub near-two : (q - 2) * (t.bound * t.load k) ≤ q * (t.total * c k * t.alpha)
    near-two = near-share 1 2 q (lit≤ tt) (omega (arith, p.precision-low)) (omega arith)
