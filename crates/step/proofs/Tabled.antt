-- The three tables of the resources in one slice: what each step leaves of them. Assumes nothing.
use mathlib.Core.Path.{◌≡◌, refl, sym, ◌∙◌}
use mathlib.Core.List.{List}
use Prim.Native.Nat.{ℕ, ◌+◌, ◌≤◌}
use native.Mathlib.Omega.{arith}
use lib.ListN.{length}
use Rattle.bounds.specs.Bounds.{most_arcs}
use Rattle.packed.specs.Packed.{part, put, lengths_from, loads_from, kept_from, table_numbers}
use Rattle.packed.proofs.Columns.{part_length, put-length, part-put, part-behind, part-before}

-- The slice T has the lengths L, the loads Y and the kept lengths K of m resources.
pub record Tabled (m : ℕ) (T L Y K : List ℕ) : Type 0 where
  pub few : m ≤ most_arcs
  pub places : table_numbers ≤ length T
  pub lengths : part lengths_from m T ≡ L
  pub loads : part loads_from m T ≡ Y
  pub kept : part kept_from m T ≡ K

module _ {m : ℕ} {T L Y K : List ℕ} (H : Tabled m T L Y K) where
  fits : (a : ℕ) → a ≤ kept_from → a + m ≤ length T
  fits a b = omega (arith, H.few, H.places)

  pub part-size : (a : ℕ) → a ≤ kept_from → length (part a m T) ≡ m
  part-size a b = part_length a m T (fits a b)

  room : (a : ℕ) → a ≤ kept_from → (ys : List ℕ) → length ys ≡ m → table_numbers ≤ length (put a m T ys)
  room a b ys same = omega (arith, put-length a m T ys (fits a b) same, H.places)

  -- Each table when its part is back.
  pub with-lengths : (ys : List ℕ) → length ys ≡ length (part lengths_from m T) → Tabled m (put lengths_from m T ys) ys Y K
  with-lengths ys q =
      let same = q ∙ part-size lengths_from (omega arith) in
      record {
        few = H.few;
        places = room lengths_from (omega arith) ys same;
        lengths = part-put lengths_from m T ys (fits lengths_from (omega arith)) same;
        loads = part-behind lengths_from m T ys (fits lengths_from (omega arith)) same loads_from m (omega (arith, H.few)) ∙ H.loads;
        kept = part-behind lengths_from m T ys (fits lengths_from (omega arith)) same kept_from m (omega (arith, H.few)) ∙ H.kept;
      }

  pub with-loads : (ys : List ℕ) → length ys ≡ length (part loads_from m T) → Tabled m (put loads_from m T ys) L ys K
  with-loads ys q =
      let same = q ∙ part-size loads_from (omega arith) in
      record {
        few = H.few;
        places = room loads_from (omega arith) ys same;
        lengths = part-before loads_from m T lengths_from m ys (omega (arith, H.places)) (omega (arith, H.few)) ∙ H.lengths;
        loads = part-put loads_from m T ys (fits loads_from (omega arith)) same;
        kept = part-behind loads_from m T ys (fits loads_from (omega arith)) same kept_from m (omega (arith, H.few)) ∙ H.kept;
      }

  pub with-kept : (ys : List ℕ) → length ys ≡ length (part kept_from m T) → Tabled m (put kept_from m T ys) L Y ys
  with-kept ys q =
      let same = q ∙ part-size kept_from (omega arith) in
      record {
        few = H.few;
        places = room kept_from (omega arith) ys same;
        lengths = part-before kept_from m T lengths_from m ys (omega (arith, H.places)) (omega (arith, H.few)) ∙ H.lengths;
        loads = part-before kept_from m T loads_from m ys (omega (arith, H.places)) (omega (arith, H.few)) ∙ H.loads;
        kept = part-put kept_from m T ys (fits kept_from (omega arith)) same;
      }

  -- The lengths kept: they are put in the place of those kept before.
  pub keeps : {T' : List ℕ} → T' ≡ put kept_from m T (part lengths_from m T) → Tabled m T' L Y L
  keeps e =
      let same = part-size lengths_from (omega arith) ∙ sym (part-size kept_from (omega arith)) in
      let k = with-kept (part lengths_from m T) same in
      rw e (record { few = k.few; places = k.places; lengths = k.lengths; loads = k.loads; kept = k.kept ∙ H.lengths })

  -- What holds of the tables holds of those in the slice.
  pub in-slice : (P : List ℕ → List ℕ → List ℕ → Type 0) → P L Y K → P (part lengths_from m T) (part loads_from m T) (part kept_from m T)
  in-slice P p = rw (H.lengths, H.loads, H.kept) p

-- The tables that a slice has.
pub tabled : (m : ℕ) (T : List ℕ) → m ≤ most_arcs → table_numbers ≤ length T → Tabled m T (part lengths_from m T) (part loads_from m T) (part kept_from m T)
tabled m T few places = record { few = few; places = places; lengths = refl; loads = refl; kept = refl }
