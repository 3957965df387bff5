-- The sum of all capacities, and what follows for the volume of lengths below a mark.
-- Assumes nothing.
use Prim.Native.Nat.{ℕ, ◌*◌, ◌≤◌, ◌<◌}
use native.Mathlib.Nat.{le_trans, mul-le-mul, mul-le-mul_right}
use native.Mathlib.Omega.{arith}
use Rattle.bounds.specs.Bounds.{most_arcs, most_capacity}
use Rattle.arith.specs.Sum.{sum}
use Rattle.arith.proofs.Sums.{sum-le, sum-const}
use Rattle.packing.proofs.Program.{Program}
use Rattle.packing.proofs.Run.{volume}

module _ {m q L : ℕ} {c : ℕ → ℕ} (p : Program m q L c) where
  -- C, the sum of all capacities, by the number of resources and by the greatest number.
  pub capacity-each : sum m c ≤ most_capacity * m
  capacity-each = omega (arith, sum-le m c (λ e. most_capacity) (λ e h. p.capacity-high e h), sum-const m most_capacity)

  pub capacity-all : sum m c ≤ most_arcs * most_capacity
  capacity-all = omega (arith, capacity-each, p.resources-high)

  -- The volume of lengths of at most k each.
  pub volume-le : (l : ℕ → ℕ) (k : ℕ) → ((e : ℕ) → e < m → l e ≤ k) → volume m c l ≤ most_arcs * most_capacity * k
  volume-le l k h =
      le_trans (sum-le m (λ e. c e * l e) (λ e. most_capacity * k) (λ e b. mul-le-mul (p.capacity-high e b) (h e b)))
      (omega (arith, sum-const m (most_capacity * k), mul-le-mul_right (most_capacity * k) p.resources-high))
