-- An index on its way: empty at first, arcs at other nodes passed by, and the whole of it.
-- Assumes nothing.
use mathlib.Core.Path.{◌≡◌, ◌∙◌}
use mathlib.Core.Logic.{⊎_elim}
use mathlib.Core.List.{List}
use Prim.Native.Nat.{ℕ, zero, suc, ◌+◌, ◌≤◌, ◌<◌}
use native.Mathlib.Nat.{eq-or-lt_of_le}
use native.Mathlib.Omega.{arith}
use lib.ListN.{length, set, length-set}
use lib.Seq.{get_or-set_same, get_or-set_other}
use Rattle.index.specs.Index.{index_numbers, begins, Place, Index}
use Rattle.index.specs.Indexing.{Side, Columns, Joining, forth, back, Joins, Building}
use Rattle.index.proofs.Counts.{used-on}

-- The same index by another relation that tells the same.
pub index_same :
    {R S : ℕ → ℕ → ℕ → Type 0} {n : ℕ} {ix : List ℕ} → ((v e w : ℕ) → v ≤ n → R v e w → S v e w) → ((v e w : ℕ) → v ≤ n → S v e w → R v e w) →
    Index R n ix → Index S n ix
index_same to from I =
    record {
      nodes = I.nodes;
      numbers = I.numbers;
      within = I.within;
      sound = λ v p e w b P. to v e w b (I.sound v p e w b P);
      whole = λ v e w b r. I.whole v e w b (from v e w b r);
      ascending = I.ascending;
    }

-- Node 0 has no arc.
module _ (c : Side) (C : Columns c) (ix : List ℕ) (h : index_numbers ≤ length ix) where
  abbrev none : List ℕ
  none = set (set ix 0 0) 1 0

  none-at : (v : ℕ) → v ≤ 1 → begins none v ≡ 0
  none-at zero b = get_or-set_other (set ix 0 0) 1 0 0 0 (λ q. omega arith) ∙ get_or-set_same ix 0 0 0 (omega arith)
  none-at (suc zero) b = get_or-set_same (set ix 0 0) 1 0 0 (simp length-set (omega arith))
  none-at (suc (suc v)) b = absurd (omega arith)

  none-place : {v p e w : ℕ} → v ≤ 0 → Place none v p e w → ⊥
  none-place {v} b P = omega (arith, P.below, none-at (v + 1) (omega arith))

  -- no arc is there
  none-joins : {v e w : ℕ} → v ≤ 0 → e < length c.here → Joining c v e w → ⊥
  none-joins {v} {e} b l (forth q r) = omega (arith, C.ends e l)
  none-joins {v} {e} b l (back m q r) = omega (arith, C.other-ends e l)

  pub building-none : Building c 0 (length c.here) none
  building-none =
      record {
        index =
            record {
              nodes = omega arith;
              numbers = simp length-set h;
              within = λ v b. omega (arith, none-at (v + 1) (omega arith));
              sound = λ v p e w b P. absurd (none-place b P);
              whole = λ v e w b U. absurd (none-joins b U.joins.arc U.joins.way);
              ascending = λ v p q e f w x b P Q l. absurd (none-place b P);
            };
        order = λ v b. omega (arith, none-at v b);
        few = omega (arith, none-at 1 (omega arith));
      }

module _ {c : Side} {v : ℕ} where
  -- An arc at another node is passed by.
  pub building-on : {e : ℕ} {ix : List ℕ} → Building c v e ix → ((w : ℕ) → Joining c v e w → ⊥) → Building c v (e + 1) ix
  building-on {e} B other =
      record {
        index =
            index_same
            (λ u f w b U. record { joins = U.joins; first = λ q. omega (arith, U.first q) })
            (λ u f w b U. record {
              joins = U.joins;
              first = λ q. ⊎_elim
                  (λ (s : f ≡ e). absurd (other w (rw (s, q) at U.joins.way)))
                  (λ (l : f < e). l)
                  (eq-or-lt_of_le (omega (arith, U.first q)));
            })
            B.index;
        order = B.order;
        few = omega (arith, B.few, used-on c v e);
      }

  -- All of them.
  pub building-all : {ix : List ℕ} → Building c v (length c.here) ix → Index (Joins c) v ix
  building-all B =
      index_same
      (λ u f w b U. U.joins)
      (λ u f w b J. record { joins = J; first = λ q. J.arc })
      B.index
