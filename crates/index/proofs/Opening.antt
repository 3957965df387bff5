-- One node more in an index on its way: it has no arcs yet.
-- Assumes nothing.
use mathlib.Core.Path.{◌≡◌, sym, ap, ◌∙◌}
use mathlib.Core.Logic.{⊎_elim}
use mathlib.Core.List.{List}
use Prim.Native.Nat.{ℕ, ◌+◌, ◌≤◌, ◌<◌}
use native.Mathlib.Nat.{eq-or-lt_of_le, le_refl}
use native.Mathlib.Omega.{arith}
use lib.ListN.{length, get_or, set, length-set}
use lib.Seq.{get_or-set_same, get_or-set_other}
use Rattle.bounds.specs.Bounds.{most_nodes}
use Rattle.index.specs.Index.{arcs_from, ends_from, begins, Place}
use Rattle.index.specs.Indexing.{Side, Columns, Building}
use Rattle.index.proofs.Counts.{used-next}

module _ {c : Side} {v : ℕ} {ix : List ℕ} (B : Building c v (length c.here) ix) (C : Columns c) (b : v < most_nodes) where
  -- the index with the node after v
  abbrev on : List ℕ
  on = set ix (v + 1 + 1) (begins ix (v + 1))

  elsewhere : (i : ℕ) → (i ≡ v + 1 + 1 → ⊥) → get_or on i 0 ≡ get_or ix i 0
  elsewhere i ne = get_or-set_other ix (v + 1 + 1) i (begins ix (v + 1)) 0 ne

  last : begins on (v + 1 + 1) ≡ begins ix (v + 1)
  last = get_or-set_same ix (v + 1 + 1) (begins ix (v + 1)) 0 (omega (arith, B.index.numbers))

  -- that node has no place
  here-empty : {u p e w : ℕ} → u ≡ v + 1 → Place on u p e w → ⊥
  here-empty {u} q P =
      omega (
        arith,
        P.from,
        P.below,
        last,
        elsewhere (v + 1) (λ r. omega arith),
        ap (begins on) q,
        ap (λ i. begins on (i + 1)) q,
      )

  -- the places of the others are the same
  module _ {u p e w : ℕ} (k : u < v + 1) where
    was : Place on u p e w → Place ix u p e w
    was P =
        record {
          from = omega (arith, P.from, elsewhere u (λ r. omega arith));
          below = omega (arith, P.below, elsewhere (u + 1) (λ r. omega arith));
          arc = sym (elsewhere (arcs_from + p) (λ r. omega arith)) ∙ P.arc;
          end = sym (elsewhere (ends_from + p) (λ r. omega arith)) ∙ P.end;
        }

    stays : Place ix u p e w → Place on u p e w
    stays P =
        record {
          from = omega (arith, P.from, elsewhere u (λ r. omega arith));
          below = omega (arith, P.below, elsewhere (u + 1) (λ r. omega arith));
          arc = elsewhere (arcs_from + p) (λ r. omega arith) ∙ P.arc;
          end = elsewhere (ends_from + p) (λ r. omega arith) ∙ P.end;
        }

  -- All arcs of v are put; the node after it has none yet.
  pub building-next : Building c (v + 1) 0 on
  building-next =
      record {
        index =
            record {
              nodes = omega arith;
              numbers = rw length-set B.index.numbers;
              within = λ u c. omega (arith, order (u + 1) (omega arith), last, B.index.within v (omega arith));
              sound = λ u p e w c P. ⊎_elim
                  (λ (q : u ≡ v + 1). absurd (here-empty q P))
                  (λ (l : u < v + 1). record {
                    joins = (B.index.sound u p e w (omega arith) (was l P)).joins;
                    first = λ q. absurd (omega arith);
                  })
                  (eq-or-lt_of_le c);
              whole = λ u e w c U. ⊎_elim
                  (λ (q : u ≡ v + 1). absurd (omega (arith, U.first q)))
                  (λ (l : u < v + 1).
                  let r = B.index.whole u e w (omega arith) (record { joins = U.joins; first = λ q. U.joins.arc }) in
                  (r.0, stays l r.1))
                  (eq-or-lt_of_le c);
              ascending = λ u p r e f w x c P R l. ⊎_elim
                  (λ (q : u ≡ v + 1). absurd (here-empty q P))
                  (λ (k : u < v + 1). B.index.ascending u p r e f w x (omega arith) (was k P) (was k R) l)
                  (eq-or-lt_of_le c);
            };
        order = order;
        few = omega (arith, last, B.few, used-next c v C);
      }
    where
      order : (u : ℕ) → u ≤ v + 1 + 1 → begins on u ≤ begins on (v + 1 + 1)
      order u c =
          ⊎_elim
          (λ (q : u ≡ v + 1 + 1). rw q (le_refl _))
          (λ (l : u < v + 1 + 1). omega (arith, last, elsewhere u (λ r. omega arith), B.order u (omega arith)))
          (eq-or-lt_of_le c)
