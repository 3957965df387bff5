-- Bounds on their way up, one commodity after the other; in a list, and in a memory, of which what stands behind the bounds is left as it was.
-- Assumes nothing.
use mathlib.Core.Path.{◌≡◌, refl, sym, ap, ◌∙◌}
use mathlib.Core.List.{List}
use Prim.Native.Nat.{ℕ, ◌+◌, ◌-◌, ◌≤◌, ◌<◌}
use native.Mathlib.Omega.{arith}
use borrow.Author.Count.{below_more}
use lib.ListN.{length, get_or, take, drop, set, length-set}
use lib.Seq.{get_or-set_same, get_or-set_other, take-set-lt, drop-set-lt, drop-drop}
use Rattle.bounds.specs.Bounds.{most_commodities}
use Rattle.packed.specs.Packed.{part}
use Rattle.packed.specs.declared.Shape.{Shape}
use Rattle.packed.proofs.Columns.{part_at, part_length}
use Rattle.paths.specs.Order.{distance_numbers}
use Rattle.memory.specs.Memory.{bounds_in, page_from, distances_in, memory_numbers}
use Rattle.memory.specs.Raised.{told_by, Greater, Raised, RaisedAt, RaisedIn}

-- What stands behind the bounds.
module _ (old new : List ℕ) (behind : drop most_commodities new ≡ drop most_commodities old) where
  drop-same : (b : ℕ) → most_commodities ≤ b → drop b new ≡ drop b old
  drop-same b past =
      let whole : most_commodities + (b - most_commodities) ≡ b = omega arith in
      let split : (xs : List ℕ) → drop (b - most_commodities) (drop most_commodities xs) ≡ drop b xs = λ xs.
      drop-drop (b - most_commodities) most_commodities xs ∙ ap (λ i. drop i xs) whole in
      sym (split new) ∙ (ap (drop (b - most_commodities)) behind ∙ split old)

  pub part_same : (b k : ℕ) → most_commodities ≤ b → part b k new ≡ part b k old
  part_same b k past = ap (take (b + k - b)) (drop-same b past)

module _ {x : ℕ → ℕ} {sources sinks d old : List ℕ} where
  pub raised-none : Raised x sources sinks d old old 0
  raised-none = record { size = refl; each = λ i b. absurd (omega arith); rest = λ i b. refl }

  -- One commodity more.
  pub raised-more :
      {new : List ℕ} {k r : ℕ} → Raised x sources sinks d old new k → k < length new →
      Greater (get_or new k 0) (told_by x d (get_or sources k 0) (get_or sinks k 0)) r → Raised x sources sinks d old (set new k r) (k + 1)
  raised-more {new} {k} {r} R b G =
      record {
        size = length-set new k r ∙ R.size;
        each =
            below_more (λ i. Greater (get_or old i 0) (told_by x d (get_or sources i 0) (get_or sinks i 0)) (get_or (set new k r) i 0)) k
            (λ i c. rw (get_or-set_other new k i r 0 (λ (s : i ≡ k). omega arith)) (R.each i c))
            (rw (get_or-set_same new k r 0 b, ← R.rest k (omega arith)) G);
        rest = λ i c. get_or-set_other new k i r 0 (λ (s : i ≡ k). omega arith) ∙ R.rest i (omega arith);
      }

  -- The same by what is the same at the sources.
  pub raised-same :
      {new : List ℕ} {k : ℕ} {y : ℕ → ℕ} → ((i : ℕ) → i < k → x (get_or sources i 0) ≡ y (get_or sources i 0)) → Raised x sources sinks d old new k →
      Raised y sources sinks d old new k
  raised-same same R = record { size = R.size; each = λ i b. rw (← same i b) (R.each i b); rest = R.rest }

module _ {s : Shape} {net ix l : List ℕ} {t : ℕ} {old : List ℕ} where
  pub raised-in-none : RaisedIn s net ix l t old old 0
  raised-in-none = record { bounds = raised-none; behind = refl; numbers = refl }

  module _ {mid new : List ℕ} {i r : ℕ} (few : s.commodities ≤ most_commodities) (places : memory_numbers ≤ length old) (among : i < s.commodities)
      (R : RaisedIn s net ix l t old mid i) (A : RaisedAt s net ix l t i mid new r) where
    pub raised-in-more : RaisedIn s net ix l t old new (i + 1)
    raised-in-more =
        let k : ℕ = s.commodities in
        let bound : get_or (bounds_in s mid) i 0 ≡ get_or mid i 0 = part_at 0 k mid i among ∙ ap (λ j. get_or mid j 0) (omega arith) in
        let table : distances_in t mid ≡ distances_in t old = part_same old mid R.behind (page_from t) distance_numbers (omega arith) in
        rw A.stored (record {
          bounds =
              rw bounds-set (raised-more R.bounds (omega (arith, part_length 0 k mid (omega (arith, R.numbers)))) (rw (bound, ← table) A.greater));
          behind = drop-set-lt most_commodities mid i r (omega arith) ∙ R.behind;
          numbers = length-set mid i r ∙ R.numbers;
        })
      where
        bounds-set : bounds_in s (set mid i r) ≡ set (bounds_in s mid) i r
        bounds-set = let whole : 0 + s.commodities - 0 ≡ s.commodities = omega arith in rw whole (take-set-lt s.commodities mid i r among)

    -- The bound that comes back is the one that stands there.
    pub raised-in-bound : get_or (bounds_in s new) i 0 ≡ r
    raised-in-bound =
        rw A.stored
        (part_at 0 s.commodities (set mid i r) i among ∙
        (ap (λ j. get_or (set mid i r) j 0) (omega arith) ∙ get_or-set_same mid i r 0 (omega (arith, R.numbers))))

    -- Those of other commodities are as they were.
    pub raised-in-other : (j : ℕ) → j < s.commodities → (j ≡ i → ⊥) → get_or (bounds_in s new) j 0 ≡ get_or (bounds_in s mid) j 0
    raised-in-other j b apart =
        rw A.stored
        (part_at 0 s.commodities (set mid i r) j b ∙
        (ap (λ j. get_or (set mid i r) j 0) (omega arith) ∙
        (get_or-set_other mid i j r 0 apart ∙ sym (part_at 0 s.commodities mid j b ∙ ap (λ j. get_or mid j 0) (omega arith)))))
