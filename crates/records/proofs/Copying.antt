-- The slice of a network while records are copied into it, one after the other. Assumes nothing.
use mathlib.Core.Path.{◌≡◌, refl, sym, ap, ◌∙◌}
use mathlib.Core.Logic.{⊎_elim}
use mathlib.Core.List.{List, map}
use Prim.Native.Nat.{ℕ, zero, suc, ◌+◌, ◌≤◌, ◌<◌}
use native.Mathlib.Nat.{le_of_suc-le-suc, eq-or-lt_of_le}
use native.Mathlib.Numerals.{add-one}
use native.Mathlib.Omega.{arith}
use lib.ListN.{length, get_or, set, take, replicate, length-set, length-map, length-replicate, get_or-map}
use lib.Seq.{get_or-set_same, get_or-set_other, ext_get_or}
use Rattle.packed.specs.Packed.{part, tails_from, heads_from, capacities_from, marks_from, net_numbers}
use Rattle.packed.proofs.Columns.{part_length, part_at}
use Rattle.records.specs.Parts.{network_copied}
use Rattle.records.specs.Records.{network_lent}
use Rattle.records.specs.declared.Arc.{Arc}

abbrev pub nil : Arc
nil = record { tail = 0; head = 0; capacity = 0; mark = 0 }

-- Record x put at place k of the columns: its tail, then its head, its capacity and its mark.
module _ (xs : List ℕ) (k : ℕ) (x : Arc) where
  abbrev pub tailed : List ℕ
  tailed = set xs (tails_from + k) x.tail

  abbrev pub headed : List ℕ
  headed = set tailed (heads_from + k) x.head

  abbrev pub capped : List ℕ
  capped = set headed (capacities_from + k) x.capacity

  abbrev pub put : List ℕ
  put = set capped (marks_from + k) x.mark

  pub length-tailed : length tailed ≡ length xs
  length-tailed = length-set xs (tails_from + k) x.tail

  pub length-headed : length headed ≡ length xs
  length-headed = length-set tailed (heads_from + k) x.head ∙ length-tailed

  pub length-capped : length capped ≡ length xs
  length-capped = length-set headed (capacities_from + k) x.capacity ∙ length-headed

  length-put : length put ≡ length xs
  length-put = length-set capped (marks_from + k) x.mark ∙ length-capped

-- The slice with the first k records in their places.
unfoldable pub filled : List Arc → ℕ → List ℕ
filled arcs zero = replicate net_numbers 0
filled arcs (suc k) = put (filled arcs k) k (get_or arcs k nil)

pub filled_none : (arcs : List Arc) → replicate net_numbers 0 ≡ filled arcs 0
unfolding filled
filled_none arcs = refl

pub filled_more : (arcs : List Arc) (k : ℕ) → put (filled arcs k) k (get_or arcs k nil) ≡ filled arcs (k + 1)
unfolding filled
filled_more arcs k = rw add-one refl

pub length-filled : (arcs : List Arc) (k : ℕ) → length (filled arcs k) ≡ net_numbers
unfolding filled
length-filled arcs zero = length-replicate {A = ℕ} net_numbers 0
length-filled arcs (suc k) = length-put (filled arcs k) k (get_or arcs k nil) ∙ length-filled arcs k

-- Place i is none of the four that a record takes at k.
record Elsewhere (i k : ℕ) : Type 0 where
  no-tail : i ≡ tails_from + k → ⊥
  no-head : i ≡ heads_from + k → ⊥
  no-capacity : i ≡ capacities_from + k → ⊥
  no-mark : i ≡ marks_from + k → ⊥

module _ (xs : List ℕ) (k : ℕ) (x : Arc) where
  -- A number put leaves every other place,
  past-tail : (i : ℕ) → (i ≡ tails_from + k → ⊥) → get_or (tailed xs k x) i 0 ≡ get_or xs i 0
  past-tail i = get_or-set_other xs (tails_from + k) i x.tail 0

  past_head : (i : ℕ) → (i ≡ heads_from + k → ⊥) → get_or (headed xs k x) i 0 ≡ get_or (tailed xs k x) i 0
  past_head i = get_or-set_other (tailed xs k x) (heads_from + k) i x.head 0

  past-capacity : (i : ℕ) → (i ≡ capacities_from + k → ⊥) → get_or (capped xs k x) i 0 ≡ get_or (headed xs k x) i 0
  past-capacity i = get_or-set_other (headed xs k x) (capacities_from + k) i x.capacity 0

  past-mark : (i : ℕ) → (i ≡ marks_from + k → ⊥) → get_or (put xs k x) i 0 ≡ get_or (capped xs k x) i 0
  past-mark i = get_or-set_other (capped xs k x) (marks_from + k) i x.mark 0

  put_other : (i : ℕ) → Elsewhere i k → get_or (put xs k x) i 0 ≡ get_or xs i 0
  put_other i e = past-mark i e.no-mark ∙ (past-capacity i e.no-capacity ∙ (past_head i e.no-head ∙ past-tail i e.no-tail))

  -- and stands at its own.
  module _ (room : length xs ≡ net_numbers) (low : k < 256) where
    put-tail : get_or (put xs k x) (tails_from + k) 0 ≡ x.tail
    put-tail =
        past-mark (tails_from + k) (omega arith) ∙ (past-capacity (tails_from + k) (omega arith) ∙ (past_head (tails_from + k) (omega arith) ∙
        get_or-set_same xs (tails_from + k) x.tail 0 (omega (arith, room))))

    put-head : get_or (put xs k x) (heads_from + k) 0 ≡ x.head
    put-head =
        past-mark (heads_from + k) (omega arith) ∙ (past-capacity (heads_from + k) (omega arith) ∙
        get_or-set_same (tailed xs k x) (heads_from + k) x.head 0 (omega (arith, room, length-tailed xs k x)))

    put-capacity : get_or (put xs k x) (capacities_from + k) 0 ≡ x.capacity
    put-capacity =
        past-mark (capacities_from + k) (omega arith) ∙
        get_or-set_same (headed xs k x) (capacities_from + k) x.capacity 0 (omega (arith, room, length-headed xs k x))

    put-mark : get_or (put xs k x) (marks_from + k) 0 ≡ x.mark
    put-mark = get_or-set_same (capped xs k x) (marks_from + k) x.mark 0 (omega (arith, room, length-capped xs k x))

-- A column from place b on takes the number f of each record, and no other number of it.
module _ (f : Arc → ℕ) (b : ℕ) (own : (xs : List ℕ) (k : ℕ) (x : Arc) → length xs ≡ net_numbers → k < 256 → get_or (put xs k x) (b + k) 0 ≡ f x)
    (apart : (j k : ℕ) → j < k → k < 256 → Elsewhere (b + j) k) (arcs : List Arc) where
  -- Those of the first k records stand in it.
  stand : (k : ℕ) → k ≤ 256 → (j : ℕ) → j < k → get_or (filled arcs k) (b + j) 0 ≡ f (get_or arcs j nil)
  unfolding filled
  stand zero h j l = absurd (omega arith)
  stand (suc k) h j l =
      let ys = filled arcs k in
      let x = get_or arcs k nil in
      ⊎_elim (λ (e : j ≡ k). rw e (own ys k x (length-filled arcs k) (omega arith)))
      (λ (l : j < k). put_other ys k x (b + j) (apart j k l (omega arith)) ∙ stand k (omega arith) j l) (eq-or-lt_of_le (le_of_suc-le-suc l))

  -- When all records are in their places, it is their column.
  column-is : length arcs ≤ 256 → f nil ≡ 0 → b ≤ marks_from → part b (length arcs) (filled arcs (length arcs)) ≡ map f arcs
  column-is few z low =
      let m = length arcs in
      let long : length (part b m (filled arcs m)) ≡ m = part_length b m (filled arcs m) (omega (arith, length-filled arcs m)) in
      ext_get_or 0 (part b m (filled arcs m)) (map f arcs) (long ∙ sym (length-map arcs f)) (λ j l.
      part_at b m (filled arcs m) j (omega (arith, long)) ∙ (stand m few j (omega (arith, long)) ∙
      (sym (get_or-map f arcs j nil) ∙ ap (λ (d : ℕ). get_or (map f arcs) j d) z)))

-- The four columns are those of the network that the records are.
pub copied :
    (arcs : List Arc) → length arcs ≤ 256 → (n : ℕ) (pairs limits : List ℕ) →
    network_copied n (length arcs) (filled arcs (length arcs)) pairs (take n limits) ≡ network_lent n arcs pairs limits
unfolding network_lent
copied arcs few n pairs limits =
    rw (
      column-is (λ a. a.tail) tails_from put-tail (λ j k l h. omega arith) arcs few refl (omega arith),
      column-is (λ a. a.head) heads_from put-head (λ j k l h. omega arith) arcs few refl (omega arith),
      column-is (λ a. a.capacity) capacities_from put-capacity (λ j k l h. omega arith) arcs few refl (omega arith),
      column-is (λ a. a.mark) marks_from put-mark (λ j k l h. omega arith) arcs few refl (omega arith),
    )
    refl
