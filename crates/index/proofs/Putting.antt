-- An arc is put behind the last place of a node: all other places stay.
-- Assumes nothing.
use mathlib.Core.Path.{◌≡◌, sym, ◌∙◌}
use mathlib.Core.Logic.{◌⊎◌, inl, inr, ⊎_elim}
use mathlib.Core.List.{List}
use Prim.Native.Nat.{ℕ, ◌+◌, ◌≤◌, ◌<◌}
use native.Mathlib.Nat.{eq-or-lt_of_le}
use native.Mathlib.Omega.{arith}
use lib.ListN.{length, get_or, set, length-set}
use lib.Seq.{get_or-set_same, get_or-set_other}
use Rattle.index.specs.Index.{arcs_from, ends_from, begins, arc_at, end_at, Place}
use Rattle.index.specs.Indexing.{Putting, placed}

module _ {v : ℕ} {ix : List ℕ} (P : Putting v ix) (e w : ℕ) where
  abbrev p : ℕ
  p = begins ix (v + 1)

  -- the number at a place that is none of the three is as before
  elsewhere :
      (i : ℕ) → (i ≡ v + 1 → ⊥) → (i ≡ arcs_from + p → ⊥) → (i ≡ ends_from + p → ⊥) → get_or (placed v e w ix) i 0 ≡ get_or ix i 0
  unfolding placed
  elsewhere i a b c =
      get_or-set_other (set (set ix (arcs_from + p) e) (ends_from + p) w) (v + 1) i (p + 1) 0 a ∙
      (get_or-set_other (set ix (arcs_from + p) e) (ends_from + p) i w 0 c ∙ get_or-set_other ix (arcs_from + p) i e 0 b)

  pub put-length : length (placed v e w ix) ≡ length ix
  unfolding placed
  put-length = simp length-set

  -- Where the nodes begin: the next one a place later,
  pub put_next : begins (placed v e w ix) (v + 1) ≡ p + 1
  unfolding placed
  put_next =
      get_or-set_same (set (set ix (arcs_from + p) e) (ends_from + p) w) (v + 1) (p + 1) 0
      (simp length-set (omega (arith, P.node, P.numbers)))

  -- the others as before.
  pub put-begins : (u : ℕ) → u ≤ v → begins (placed v e w ix) u ≡ begins ix u
  put-begins u h = elsewhere u (λ q. omega arith) (λ q. omega (arith, P.node)) (λ q. omega (arith, P.node))

  put-arc : arc_at (placed v e w ix) p ≡ e
  unfolding placed
  put-arc =
      get_or-set_other (set (set ix (arcs_from + p) e) (ends_from + p) w) (v + 1) (arcs_from + p) (p + 1) 0 (λ q. omega (arith, P.node)) ∙
      (get_or-set_other (set ix (arcs_from + p) e) (ends_from + p) (arcs_from + p) w 0 (λ q. omega arith) ∙
      get_or-set_same ix (arcs_from + p) e 0 (omega (arith, P.place, P.numbers)))

  put-end : end_at (placed v e w ix) p ≡ w
  unfolding placed
  put-end =
      get_or-set_other (set (set ix (arcs_from + p) e) (ends_from + p) w) (v + 1) (ends_from + p) (p + 1) 0 (λ q. omega (arith, P.node)) ∙
      get_or-set_same (set ix (arcs_from + p) e) (ends_from + p) w 0 (simp length-set (omega (arith, P.place, P.numbers)))

  earlier-arc : (q : ℕ) → q < p → arc_at (placed v e w ix) q ≡ arc_at ix q
  earlier-arc q h =
      elsewhere (arcs_from + q) (λ r. omega (arith, P.node)) (λ r. omega arith) (λ r. omega (arith, P.place))

  earlier-end : (q : ℕ) → q < p → end_at (placed v e w ix) q ≡ end_at ix q
  earlier-end q h =
      elsewhere (ends_from + q) (λ r. omega (arith, P.node)) (λ r. omega (arith, P.place)) (λ r. omega arith)

  -- The new place is v's.
  pub put-place : begins ix v ≤ p → Place (placed v e w ix) v p e w
  put-place h =
      record {
        from = omega (arith, put-begins v (omega arith));
        below = omega (arith, put_next);
        arc = put-arc;
        end = put-end;
      }

  module _ {u : ℕ} (h : u ≤ v) (order : begins ix (u + 1) ≤ p) where
    -- where the places of u end is as before, or u is v
    past : (begins (placed v e w ix) (u + 1) ≡ begins ix (u + 1)) ⊎ ((u ≡ v) × (begins (placed v e w ix) (u + 1) ≡ p + 1))
    past =
        ⊎_elim
        (λ (s : u ≡ v). inr (s, rw s put_next))
        (λ (l : u < v). inl (put-begins (u + 1) (omega arith)))
        (eq-or-lt_of_le h)

    -- The places that were there stay,
    pub place-put : {q f x : ℕ} → Place ix u q f x → Place (placed v e w ix) u q f x
    place-put {q} P' =
        let b : q < p = omega (arith, P'.below) in
        record {
          from = omega (arith, put-begins u h, P'.from);
          below = ⊎_elim (λ (s : begins (placed v e w ix) (u + 1) ≡ begins ix (u + 1)). omega (arith, P'.below))
              (λ (s : (u ≡ v) × (begins (placed v e w ix) (u + 1) ≡ p + 1)). omega arith)
              past;
          arc = earlier-arc q b ∙ P'.arc;
          end = earlier-end q b ∙ P'.end;
        }

    before : {q f x : ℕ} → Place (placed v e w ix) u q f x → q < begins ix (u + 1) → Place ix u q f x
    before {q} P' l =
        let b : q < p = omega arith in
        record {
          from = omega (arith, put-begins u h, P'.from);
          below = l;
          arc = sym (earlier-arc q b) ∙ P'.arc;
          end = sym (earlier-end q b) ∙ P'.end;
        }

    -- and there is no other but the new one.
    pub put-places : {q f x : ℕ} → Place (placed v e w ix) u q f x → Place ix u q f x ⊎ ((u ≡ v) × (q ≡ p) × (f ≡ e) × (x ≡ w))
    put-places {q} P' =
        ⊎_elim
        (λ (s : begins (placed v e w ix) (u + 1) ≡ begins ix (u + 1)). inl (before P' (omega (arith, P'.below))))
        (λ (s : (u ≡ v) × (begins (placed v e w ix) (u + 1) ≡ p + 1)).
        ⊎_elim
        (λ (r : q ≡ p). inr (s.0, r, sym P'.arc ∙ (rw r put-arc), sym P'.end ∙ (rw r put-end)))
        (λ (l : q < p). inl (before P' (rw s.0 l)))
        (eq-or-lt_of_le (omega (arith, P'.below))))
        past
