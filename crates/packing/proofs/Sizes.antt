-- How large the numbers of a run become: what its words must hold. T = q * L is the load mark.
-- Assumes nothing.
use Prim.Native.Nat.{ℕ, ◌+◌, ◌*◌, ◌^◌, ◌≤◌, ◌<◌}
use native.Mathlib.Nat.{le_trans, mul-le-mul, mul-le-mul_right}
use native.Mathlib.Omega.{arith}
use Rattle.bounds.specs.Bounds.{most_capacity}
use Rattle.arith.proofs.Sums.{sum-le}
use Rattle.packing.proofs.Capacity.{volume-le}
use Rattle.packing.proofs.Count.{count-all}
use Rattle.packing.proofs.Health.{healthy}
use Rattle.packing.proofs.Program.{Program}
use Rattle.packing.proofs.Run.{volume, grown, State, Least, Iteration, Run, Below}
use Rattle.packing.proofs.Step.{double}

-- a column is no longer than what it draws
size-le-drawn : (g a : ℕ) → 1 ≤ g → a ≤ g * a
size-le-drawn g a h = omega (arith, mul-le-mul_right a h)

-- both numbers of the least fraction stay below what D and alpha stay below
new-bound-below : {D a B A B' A' k : ℕ} → Least D a B A B' A' → D < k → B < k → B' < k
new-bound-below (Least.smaller h e f) d b = omega (arith, e)
new-bound-below (Least.held h e f) d b = omega (arith, e)

new-alpha-below : {D a B A B' A' k : ℕ} → Least D a B A B' A' → a < k → A < k → A' < k
new-alpha-below (Least.smaller h e f) d b = omega (arith, f)
new-alpha-below (Least.held h e f) d b = omega (arith, f)

module _ {m q L : ℕ} {c : ℕ → ℕ} (p : Program m q L c) where
  module _ {s : State} (r : Run m q c s) where
    pub length-pos : (e : ℕ) → e < m → 1 ≤ s.length e
    length-pos e b = (healthy p r).positive e b

    pub length-below : (e : ℕ) → e < m → s.length e < 2 ^ 40
    length-below e b = (healthy p r).below e b

    -- D fits.
    pub volume-below : volume m c s.length < 2 ^ 58
    volume-below = omega (arith, volume-le p s.length (2 ^ 40) (λ e b. omega (arith, length-below e b)))

    -- of any draws within the capacities, before an iteration is made of them
    pub grown-below : (y : ℕ → ℕ) → ((e : ℕ) → e < m → y e ≤ c e) → (e : ℕ) → e < m → grown q c s.length y e < 2 ^ 41
    grown-below y w e b = omega (arith, double p s.length y w (healthy p r) e b, length-below e b)

    pub grown-volume-below : (y : ℕ → ℕ) → ((e : ℕ) → e < m → y e ≤ c e) → volume m c (grown q c s.length y) < 2 ^ 59
    grown-volume-below y w =
        omega (arith, volume-le p (grown q c s.length y) (2 ^ 41) (λ e b. omega (arith, grown-below y w e b)))

  -- The length of a column is at most the volume.
  pub size-le : {s t : State} → Run m q c s → (i : Iteration m q c s t) → i.size ≤ volume m c s.length
  size-le {s} r i =
      le_trans (size-le-drawn i.amount i.size (omega (arith, i.column.full, p.capacity-low i.column.narrow i.column.inside)))
      (rw i.column.size at
      (sum-le m (λ e. i.draw e * s.length e) (λ e. c e * s.length e) (λ e b. mul-le-mul_right (s.length e) (i.column.within e b))))

  pub bound-below : {s : State} → Run m q c s → s.bound < 2 ^ 58
  bound-below (Run.start h) = omega (arith, h.bound)
  bound-below (Run.next r i) = new-bound-below i.least (volume-below r) (bound-below r)

  pub alpha-below : {s : State} → Run m q c s → s.alpha < 2 ^ 58
  alpha-below (Run.start h) = omega (arith, h.alpha)
  alpha-below (Run.next r i) = new-alpha-below i.least (omega (arith, size-le r i, volume-below r)) (alpha-below r)

  -- An iteration draws at most 1,000.
  pub total-le : {s : State} → Run m q c s → s.total ≤ most_capacity * s.count
  total-le (Run.start h) = omega (arith, h.total)
  total-le (Run.next r i) =
      omega (arith, total-le r, i.total, i.count, i.column.full, p.capacity-high i.column.narrow i.column.inside)

  pub count-last-below : {s t : State} → Run m q c s → Below m q L c s → Iteration m q c s t → t.count < 2 ^ 20
  count-last-below r h i = omega (arith, count-all p r h i, p.room)

  module _ {s t : State} (h : Below m q L c s) (i : Iteration m q c s t) where
    -- The last draw passes the mark by less than a capacity.
    pub load-last : (e : ℕ) → e < m → t.load e < q * L * c e + c e
    load-last e b = omega (arith, h e b, i.load e b, i.column.within e b)

    -- The hypothesis holds of the table, whose greatest mark is 1,472 (document 01, "Marked figures").
    pub load_below : q * L ≤ 2 ^ 11 → (e : ℕ) → e < m → t.load e < 2 ^ 21
    load_below k e b = omega (arith, load-last e b, mul-le-mul k (p.capacity-high e b), p.capacity-high e b)

    pub total-below : q * L ≤ 2 ^ 11 → Run m q c s → t.total < 2 ^ 29
    total-below k r = omega (arith, total-le (Run.next r i), count-all p r h i, mul-le-mul p.resources-high k)
