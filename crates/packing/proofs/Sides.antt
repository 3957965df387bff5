-- Both sides of the argument along a run (docs/GUARANTEE.md, "The argument", steps 4 and 5), by
-- induction on its iterations. Assumes nothing.
use Prim.Native.Nat.{ℕ, suc, ◌+◌, ◌*◌, ◌^◌, ◌≤◌, ◌<◌}
use native.Mathlib.Nat.{mul-pos}
use native.Mathlib.Omega.{arith}
use lib.Dec.{lit≤}
use Rattle.arith.specs.Sum.{sum}
use Rattle.arith.proofs.Ceilings.{ceil-below}
use Rattle.arith.proofs.Sums.{sum-le, sum-add, sum-const}
use Rattle.packing.proofs.PowerAtMost.{PowerAtMost}
use Rattle.packing.proofs.Capacity.{capacity-each}
use Rattle.packing.proofs.Fraction.{at-most-old, at-most-met}
use Rattle.packing.proofs.Health.{scaled, healthy, step-at, size-pos, positive-bound}
use Rattle.packing.proofs.Lower.{lower-start, lower-step}
use Rattle.packing.proofs.Program.{Program}
use Rattle.packing.proofs.Run.{volume, State, Start, Iteration, Run}
use Rattle.packing.proofs.Step.{Step}
use Rattle.packing.proofs.Upper.{volume-high, upper-start, upper-step}

-- weight is 2 to the number of halvings; b over x is any fraction that is at most the least one so far
pub record Sides (m q : ℕ) (c : ℕ → ℕ) (s : State) : Type 0 where
  pub weight : ℕ
  pub weight-pos : 0 < weight
  pub lower : (e : ℕ) → e < m → PowerAtMost (q + 1) q (2 ^ 36) (c e * (weight * s.length e)) (s.load e) (c e)
  pub upper : (b x : ℕ) → 0 < b → b * s.alpha ≤ s.bound * x →
      PowerAtMost q (q + 1) (weight * volume m c s.length * (2 ^ 20) ^ suc s.count) (m * 2 ^ 36 * (2 ^ 20 + 1) ^ suc s.count)
      ((8 * q + 5) * (x * s.total)) (8 * (q * b))

module _ {m q L : ℕ} {c : ℕ → ℕ} (p : Program m q L c) where
  start-volume : {s : State} → Start m c s → volume m c s.length * 2 ^ 20 ≤ m * 2 ^ 36 * (2 ^ 20 + 1)
  start-volume {s} h =
      omega (
        arith,
        sum-le m (λ e. c e * s.length e) (λ e. 2 ^ 36 + c e) (λ e b. rw (h.length e b) (omega (arith, ceil-below (2 ^ 36) (c e) (p.capacity-low e b)))),
        sum-add m (λ e. 2 ^ 36) c,
        sum-const m (2 ^ 36),
        capacity-each p,
      )

  start-sides : {s : State} → Start m c s → Sides m q c s
  start-sides {s} h = record {
    weight = 1;
    weight-pos = omega arith;
    lower = λ e b. rw (h.load e b) (lower-start q (2 ^ 36) (c e * (1 * s.length e)) (c e) (omega (arith, scaled p h e b)));
    upper = λ b x pb k. rw (h.count, h.total) (upper-start q x _ _ (omega (arith, start-volume h)));
  }

  next-sides : {s t : State} → Run m q c s → (i : Iteration m q c s t) → Step m q c s.length i.draw t.length → Sides m q c s → Sides m q c t
  next-sides {s} {t} r i step before =
      let size : 0 < i.size = size-pos p i.column (healthy p r) in
      record {
        weight = before.weight * step.factor;
        weight-pos = mul-pos before.weight-pos step.factor-pos;
        lower = λ e b. rw (i.load e b)
            (lower-step q (2 ^ 36) (c e) before.weight (s.length e) (t.length e) step.factor (i.draw e) (s.load e)
            (omega (arith, p.precision-low)) (p.capacity-low e b) before.weight-pos ((healthy p r).positive e b)
            (i.column.within e b) (step.low e b) (before.lower e b));
        upper = λ b x pb k. rw (i.count, i.total)
            (upper-step (2 ^ 20) (m * 2 ^ 36) q before.weight step.factor (volume m c s.length) (volume m c t.length)
            i.amount i.size (sum m c) b x s.count s.total
            p.precision-low p.precision-high pb (mul-pos p.resources-low (lit≤ tt))
            (rw i.column.size at (volume-high step))
            (at-most-met (positive-bound p r) size i.least b x k)
            (healthy p r).large
            (before.upper b x pb (at-most-old (positive-bound p r) size i.least b x k)));
      }

  -- Both sides hold at every state of a run.
  pub sides : {s : State} → Run m q c s → Sides m q c s
  sides (Run.start h) = start-sides h
  sides (Run.next r i) = next-sides r i (step-at p (healthy p r) i) (sides r)
