-- Along a run the lengths stay between 1 and the mark and large, columns have positive length, and the least fraction's bound is positive.
-- Assumes nothing.
use Prim.Native.Nat.{ℕ, ◌*◌, ◌^◌, ◌≤◌, ◌<◌}
use native.Mathlib.Nat.{mul-pos, lt_of_lt_of_le}
use native.Mathlib.Omega.{arith}
use lib.Dec.{lit≤}
use Rattle.arith.proofs.Ceilings.{ceil-above}
use Rattle.arith.proofs.Sums.{sum-le, sum-const, term-le-sum}
use Rattle.packing.proofs.Capacity.{capacity-each}
use Rattle.packing.proofs.Fraction.{bound-pos, alpha-pos}
use Rattle.packing.proofs.Program.{Program}
use Rattle.packing.proofs.Rounding.{factor-pos, quotient-pos, quotient_le}
use Rattle.packing.proofs.Run.{volume, State, Start, Column, Iteration, Run}
use Rattle.packing.proofs.Step.{Healthy, Step, step_of}

module _ {m q L : ℕ} {c : ℕ → ℕ} (p : Program m q L c) where
  -- At the start every capacity times length is at least the scale.
  pub scaled : {s : State} → Start m c s → (e : ℕ) → e < m → 2 ^ 36 ≤ c e * s.length e
  scaled h e b = rw (h.length e b) (ceil-above (2 ^ 36) (c e) (p.capacity-low e b))

  start-healthy : {s : State} → Start m c s → Healthy m c s.length
  start-healthy {s} h = record {
    positive = λ e b. rw (h.length e b) (quotient-pos (2 ^ 36) (c e) (p.capacity-low e b) (lit≤ tt));
    below = λ e b. omega (arith, h.length e b, quotient_le (2 ^ 36) (c e) (p.capacity-low e b));
    large = omega (arith, capacity-each p, sum-const m (2 ^ 36), sum-le m (λ e. 2 ^ 36) (λ e. c e * s.length e) (scaled h));
  }

  -- D is positive.
  pub volume-pos : (l : ℕ → ℕ) → Healthy m c l → 0 < volume m c l
  volume-pos l h =
      lt_of_lt_of_le (mul-pos (p.capacity-low 0 p.resources-low) (h.positive 0 p.resources-low)) (term-le-sum m (λ e. c e * l e) 0 p.resources-low)

  -- A column has positive length.
  pub size-pos : {l y : ℕ → ℕ} {g a : ℕ} → Column m c l y g a → Healthy m c l → 0 < a
  size-pos {l} {y} {g} {a} k h =
      let n : ℕ = k.narrow in
      let b : n < m = k.inside in
      factor-pos g a
      (rw k.size at (lt_of_lt_of_le (mul-pos (omega (arith, k.used, k.full, p.capacity-low n b)) (h.positive n b)) (term-le-sum m (λ e. y e * l e) n b)))

  -- The step that an iteration makes.
  pub step-at : {s t : State} → Healthy m c s.length → (i : Iteration m q c s t) → Step m q c s.length i.draw t.length
  step-at {s} {t} h i = step_of p s.length i.draw i.column.within h t.length i.lengths

  -- Every length table of a run is healthy.
  pub healthy : {s : State} → Run m q c s → Healthy m c s.length
  healthy (Run.start h) = start-healthy h
  healthy (Run.next r i) = (step-at (healthy r) i).healthy

  -- The least fraction's upper number is positive, and its lower number too after an iteration.
  pub positive-bound : {s : State} → Run m q c s → 0 < s.bound
  positive-bound (Run.start h) = omega (arith, h.bound)
  positive-bound (Run.next {s} r i) = bound-pos (positive-bound r) (size-pos i.column (healthy r)) i.least (volume-pos s.length (healthy r))

  pub positive-alpha : {s t : State} → Run m q c s → Iteration m q c s t → 0 < t.alpha
  positive-alpha r i = alpha-pos (positive-bound r) (size-pos i.column (healthy r)) i.least
