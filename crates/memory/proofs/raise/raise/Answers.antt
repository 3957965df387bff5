-- `memory::raise::raise` meets its contract: the bounds of the commodities passed are raised, and b has the least of them. Assumes nothing.
use mathlib.Core.Path.{◌≡◌, sym, ap, ◌∙◌}
use mathlib.Core.Logic.{inr, ⊎_elim}
use mathlib.Core.List.{List}
use Prim.Native.Nat.{ℕ, ◌+◌, ◌≤◌, ◌<◌}
use native.Mathlib.Omega.{arith}
use lib.ListN.{length, get_or}
use Rattle.bounds.specs.Bounds.{most_commodities}
use Rattle.packed.specs.declared.Shape.{Shape}
use Rattle.packed.proofs.Columns.{part_at}
use Rattle.memory.specs.Least.{Least}
use Rattle.memory.specs.Memory.{memory_numbers, bounds_in}
use Rattle.memory.specs.Raised.{RaisedAt}
use Rattle.memory.proofs.Leasts.{least_first, least-less, least_other, least-same}
use Rattle.memory.proofs.Raises.{raised-in-more, raised-in-bound, raised-in-other}
use Rattle.memory.proofs.raise.raise.Invariants.{Passed}
use Rattle.memory.proofs.raise.raise.Goals as goal
use Rattle.memory.proofs.raise.raise.Goals.{After-raise_at-bound, In-loop-i, Start, then-bound-memory, else-bound-memory}

module _ {s : Shape} {net ix l : List ℕ} {t : ℕ} {old : List ℕ} (few : s.commodities ≤ most_commodities) (places : memory_numbers ≤ length old) where
  module _ {mid : List ℕ} {i b : ℕ} (P : Passed s net ix l t old mid i b) (among : i < s.commodities) where
    leader : b < s.commodities
    leader = ⊎_elim (λ (z : (i ≡ 0) × (b ≡ 0)). omega (arith, z)) (λ (L : Least (bounds_in s mid) i b). omega (arith, L.among)) P.leading

    module _ {new : List ℕ} {r : ℕ} (A : RaisedAt s net ix l t i mid new r) where
      own : get_or (bounds_in s new) i 0 ≡ r
      own = raised-in-bound few places among P.raised A

      kept : Least (bounds_in s mid) i b → Least (bounds_in s new) i b
      kept L = least-same (λ j c. raised-in-other few places among P.raised A j (omega arith) (λ (q : j ≡ i). omega arith)) L

      -- one more, whose bound is less
      passed-less : r < get_or (bounds_in s new) b 0 → Passed s net ix l t old new (i + 1) i
      passed-less c =
          record {
            raised = raised-in-more few places among P.raised A;
            leading =
                inr (⊎_elim
                (λ (z : (i ≡ 0) × (b ≡ 0)). absurd (omega (arith, own, ap (λ j. get_or (bounds_in s new) j 0) (z.0 ∙ sym z.1))))
                (λ (L : Least (bounds_in s mid) i b). least-less (kept L) (omega (arith, own)))
                P.leading);
          }

      -- or is not
      passed-other : get_or (bounds_in s new) b 0 ≤ r → Passed s net ix l t old new (i + 1) b
      passed-other c =
          record {
            raised = raised-in-more few places among P.raised A;
            leading =
                inr (⊎_elim
                (λ (z : (i ≡ 0) × (b ≡ 0)). rw (z.0, z.1) (least_first (bounds_in s new)))
                (λ (L : Least (bounds_in s mid) i b). least_other (kept L) (omega (arith, own)))
                P.leading);
          }

few-of : (s : Start) → s.args.net.now.shape.commodities ≤ most_commodities
few-of s = s.requires.raising.packed.few-commodities

-- the leader's bound is read in the memory behind the raising
abbrev memory-at : After-raise_at-bound → List ℕ
memory-at c = c.raise_at-bound.new.memory

read : (c : After-raise_at-bound) → let b = c.loop-i.b in
    get_or (memory-at c) (0 + b) 0 ≡ get_or (bounds_in c.args.net.now.shape (memory-at c)) b 0
read c =
    sym (part_at 0 c.args.net.now.shape.commodities (memory-at c) c.loop-i.b
    (leader (few-of (goal.at.After-raise_at-bound c).Start) c.requires.raising.places c.loop-i.invariant c.loop-i-test.true))

pub loop-i-preserved : goal.loop-i-preserved
loop-i-preserved c =
    let A = c.raise_at-bound.ensures in
    let P = c.loop-i.invariant in
    let on = c.loop-i-test.true in
    elim c.if-bound-memory.branch [
      | then-bound-memory w ↦ rw w.b-is (passed-less (few-of (goal.at.loop-i-preserved c).Start) c.requires.raising.places P on A (rw (← read (goal.at.loop-i-preserved c).After-raise_at-bound) w.if-bound-memory.true))
      | else-bound-memory w ↦ rw w.b-is (passed-other (few-of (goal.at.loop-i-preserved c).Start) c.requires.raising.places P on A (rw (← read (goal.at.loop-i-preserved c).After-raise_at-bound) w.if-bound-memory.false))
    ]
