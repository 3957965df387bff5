-- One arc more in an index on its way: there is room for it, and it is put behind the others of its node.
-- Assumes nothing.
use mathlib.Core.Path.{◌≡◌, sym, ◌∙◌}
use mathlib.Core.Logic.{◌⊎◌, ⊎_elim}
use mathlib.Core.List.{List}
use Prim.Native.Nat.{ℕ, ◌+◌, ◌≤◌, ◌<◌}
use native.Mathlib.Nat.{eq-or-lt_of_le, le_refl}
use native.Mathlib.Omega.{arith}
use Rattle.index.specs.Index.{begins, Place}
use Rattle.index.specs.Indexing.{Side, Joining, forth, back, Joins, Seeing, Upto, Building, Putting, placed}
use Rattle.index.proofs.Counts.{used-within, used-put}
use Rattle.index.proofs.Putting.{put-length, put_next, put-begins, put-place, place-put, put-places}

-- An arc has one other end, seen from v.
joining-same : {c : Side} {v e w x : ℕ} → Joining c v e w → Joining c v e x → w ≡ x
joining-same (forth p q) (forth r s) = sym q ∙ s
joining-same (forth p q) (back m r s) = sym q ∙ (r ∙ (sym p ∙ s))
joining-same (back m p q) (forth r s) = sym q ∙ (r ∙ (sym p ∙ s))
joining-same (back m p q) (back n r s) = sym q ∙ s

module _ {c : Side} {v : ℕ} {e : ℕ} {ix : List ℕ} (B : Building c v e ix) (S : Seeing c e) where
  module _ {w : ℕ} (J : Joining c v e w) where
    -- There is room for one more,
    pub building-room : Putting v ix
    building-room =
        record {
          node = B.index.nodes;
          place = omega (arith, B.few, used-put c v e w J, used-within c v (e + 1) S.columns (omega (arith, S.arc)), S.columns.few);
          numbers = B.index.numbers;
        }

    -- the place that is added
    abbrev New : ℕ → ℕ → ℕ → ℕ → Type 0
    New u p f x = (u ≡ v) × (p ≡ begins ix (v + 1)) × (f ≡ e) × (x ≡ w)

    next : begins (placed v e w ix) (v + 1) ≡ begins ix (v + 1) + 1
    next = put_next building-room e w

    places : {u p f x : ℕ} → u ≤ v → Place (placed v e w ix) u p f x → Place ix u p f x ⊎ New u p f x
    places {u} c P = put-places building-room e w c (B.order (u + 1) (omega arith)) P

    order : (u : ℕ) → u ≤ v + 1 → begins (placed v e w ix) u ≤ begins (placed v e w ix) (v + 1)
    order u c =
        ⊎_elim
        (λ (s : u ≡ v + 1). rw s (le_refl _))
        (λ (l : u < v + 1). omega (arith, next, put-begins building-room e w u (omega arith), B.order u c))
        (eq-or-lt_of_le c)

    -- the arcs that it has now
    new : Upto c v (e + 1) v e w
    new = record { joins = record { arc = S.arc; way = J }; first = λ s. omega arith }

    on : {u f x : ℕ} → Upto c v e u f x → Upto c v (e + 1) u f x
    on U = record { joins = U.joins; first = λ s. omega (arith, U.first s) }

    -- an arc that was there
    old : {u f x : ℕ} → u ≤ v → Upto c v e u f x → (p : ℕ) × Place (placed v e w ix) u p f x
    old {u} {f} {x} c U =
        let r = B.index.whole u f x c U in
        (r.0, place-put building-room e w c (B.order (u + 1) (omega arith)) r.1)

    -- the arc that is put
    put-arc : {u f x : ℕ} → u ≡ v → f ≡ e → Joins c u f x → (p : ℕ) × Place (placed v e w ix) u p f x
    put-arc {u} {f} {x} s r K =
        let z : x ≡ w = joining-same (rw (s, r) at K.way) J in
        (begins ix (v + 1), rw (s, r, z) (put-place building-room e w (B.order v (omega arith))))

    whole : (u f x : ℕ) → u ≤ v → Upto c v (e + 1) u f x → (p : ℕ) × Place (placed v e w ix) u p f x
    whole u f x c U =
        ⊎_elim
        (λ (s : u ≡ v). ⊎_elim
        (λ (r : f ≡ e). put-arc s r U.joins)
        (λ (l : f < e). old c (record { joins = U.joins; first = λ i. l }))
        (eq-or-lt_of_le (omega (arith, U.first s))))
        (λ (l : u < v). old c (record { joins = U.joins; first = λ s. absurd (omega arith) }))
        (eq-or-lt_of_le c)

    -- and it is put behind the others.
    pub building-put : Building c v (e + 1) (placed v e w ix)
    building-put =
        record {
          index =
              record {
                nodes = B.index.nodes;
                numbers = rw (put-length building-room e w) B.index.numbers;
                within = λ u c. omega (arith, order (u + 1) (omega arith), next, building-room.place);
                sound = λ u p f x c P. ⊎_elim
                    (λ (P' : Place ix u p f x). on (B.index.sound u p f x c P'))
                    (λ (n : New u p f x). rw (n.0, n.2, n.3) new)
                    (places c P);
                whole = whole;
                ascending = λ u p r f g x y c P R l. ⊎_elim
                    (λ (P' : Place ix u p f x). ⊎_elim
                    (λ (R' : Place ix u r g y). B.index.ascending u p r f g x y c P' R' l)
                    (λ (n : New u r g y). omega (arith, (B.index.sound u p f x c P').first n.0))
                    (places c R))
                    (λ (m : New u p f x). ⊎_elim
                    (λ (R' : Place ix u r g y). absurd (omega (arith, R'.below, B.order (u + 1) (omega arith))))
                    (λ (n : New u r g y). absurd (omega arith))
                    (places c R))
                    (places c P);
              };
          order = order;
          few = omega (arith, next, used-put c v e w J, B.few);
        }
