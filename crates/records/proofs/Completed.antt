-- Limits put behind all other columns, and then the pairs: what the slice holds is the network of arcs, pairs and limits. Assumes nothing.
use mathlib.Core.Path.{◌≡◌, refl, ap, ◌∙◌}
use mathlib.Core.List.{List}
use Prim.Native.Nat.{ℕ, ◌+◌, ◌≤◌}
use native.Mathlib.Omega.{arith}
use lib.ListN.{length, take}
use lib.Seq.{length-take-le}
use Rattle.packed.specs.Packed.{part, put, tails_from, heads_from, capacities_from, marks_from, limits_from}
use Rattle.packed.specs.declared.Shape.{Shape}
use Rattle.packed.proofs.Columns.{part-put, part-before, put-length}
use Rattle.records.specs.Parts.{network_copied, Limiting, Limited}

module _ {s : Shape} {limits xs : List ℕ} (p : Limiting s limits xs) where
  pub limits-room : limits_from + s.limits ≤ length xs
  limits-room = let h = p.packed in omega (arith, h.few-limits, h.few-nodes, h.places)

  pub limits-many : length (take s.limits limits) ≡ s.limits
  limits-many = length-take-le s.limits limits p.enough

  module _ {ys : List ℕ} (e : ys ≡ take s.limits limits) where
    pub put-limits-length : length (put limits_from s.limits xs ys) ≡ length xs
    put-limits-length = put-length limits_from s.limits xs ys limits-room (ap length e ∙ limits-many)

    pub limited : Limited s limits xs (put limits_from s.limits xs ys)
    limited =
        record {
          holds = part-put limits_from s.limits xs ys limits-room (ap length e ∙ limits-many) ∙ e;
          kept = λ b i past. part-before limits_from s.limits xs b i ys (omega (arith, limits-room)) past;
        }

-- The arcs are as they were.
pub completed :
    {s : Shape} {limits x₀ x₁ : List ℕ} (pairs : List ℕ) → s.arcs ≤ 256 → Limited s limits x₀ x₁ →
    network_copied s.nodes s.arcs x₁ pairs (part limits_from s.limits x₁) ≡ network_copied s.nodes s.arcs x₀ pairs (take s.limits limits)
completed {s} pairs few l =
    rw (
      l.kept tails_from s.arcs (omega (arith, few)),
      l.kept heads_from s.arcs (omega (arith, few)),
      l.kept capacities_from s.arcs (omega (arith, few)),
      l.kept marks_from s.arcs (omega (arith, few)),
      l.holds,
    )
    refl
