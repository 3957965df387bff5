-- One relaxation: no distance grows, and where the arc shortens, the sum of the distances falls.
-- Assumes nothing.
use mathlib.Core.Path.{◌≡◌, refl, sym, ap}
use mathlib.Core.Logic.{◌⊎◌, inl, inr, ⊎_elim}
use mathlib.Core.Bool.{Bool, true, false, cond}
use mathlib.Core.List.{List, [], ◌∷◌}
use Prim.Native.Nat.{ℕ, zero, suc, ◌≤◌, ◌<◌}
use native.Mathlib.Omega.{arith}
use lib.ListN.{length, get_or, set, length-set}
use lib.Seq.{get_or-set_same, set-get_or}
use borrow.Author.Tests.{ltb-true, ltb-false, lt-ltb, le-ltb}
use lib.Dec.{ltb}
use Rattle.arith.proofs.Sums.{sum_lt}
use Rattle.network.specs.Network.{Network}
use Rattle.paths.specs.Distances.{via}
use Rattle.paths.specs.Relax.{shortens, relaxed, Relaxed, Taken}
use Rattle.paths.specs.Searching.{total}

-- After a store of x at v an entry is as before, or it is that at v and is x.
pub set-entry : (d : List ℕ) (v x u : ℕ) → (get_or (set d v x) u 0 ≡ get_or d u 0) ⊎ ((u ≡ v) × (get_or (set d v x) u 0 ≡ x))
set-entry [] v x u = inl refl
set-entry (a ∷ d) zero x zero = inr (refl, refl)
set-entry (a ∷ d) zero x (suc u) = inl refl
set-entry (a ∷ d) (suc v) x zero = inl refl
set-entry (a ∷ d) (suc v) x (suc u) = ⊎_elim inl (λ (h : (u ≡ v) × (get_or (set d v x) u 0 ≡ x)). inr (ap suc h.0, h.1)) (set-entry d v x u)

-- The way y is compared with the distance of where it starts, and the nearer of the two stored there; or nothing is, where that is as before.
module _ {d : List ℕ} {u y : ℕ} where
  pub takes : {x : ℕ} → y < get_or d u 0 → x ≡ y → Taken y u d (ltb y (get_or d u 0)) (set d u x)
  takes b e = record { told = refl; entries = rw (lt-ltb y (get_or d u 0) b, e) refl }

  pub takes_back : {x : ℕ} → get_or d u 0 ≤ y → x ≡ get_or d u 0 → Taken y u d (ltb y (get_or d u 0)) (set d u x)
  takes_back b e = record { told = refl; entries = rw (le-ltb y (get_or d u 0) b, e) (set-get_or d u 0) }

  pub takes-not : get_or d u 0 ≤ y → Taken y u d false d
  takes-not b = let t = le-ltb y (get_or d u 0) b in record { told = sym t; entries = rw t refl }

  -- If it is that over an arc, the arc is relaxed so.
  pub taken-relaxed : {l new : List ℕ} {x e w : ℕ} {r : Bool} → y ≡ via l d x e w → Taken y u d r new → Relaxed l x u e w d r new
  unfolding shortens relaxed
  taken-relaxed way T = record { told = rw (← way) T.told; entries = rw (← way) T.entries }

module _ (l d : List ℕ) (x u e w : ℕ) where
  -- What holds of the distances as they were, where the arc does not shorten, and of those with the nearer way, where it does.
  pub relaxed-cases :
      (P : List ℕ → Type 0) → (get_or d u 0 ≤ via l d x e w → P d) → (via l d x e w < get_or d u 0 → P (set d u (via l d x e w))) → P (relaxed l d x u e w)
  unfolding relaxed shortens
  relaxed-cases P same shorter = by-test (shortens l d x u e w) refl
    where
      by-test : (b : Bool) → shortens l d x u e w ≡ b → P (cond b (set d u (via l d x e w)) d)
      by-test true h = shorter (ltb-true _ _ h)
      by-test false h = same (ltb-false _ _ h)

  pub relaxed-size : length (relaxed l d x u e w) ≡ length d
  relaxed-size = relaxed-cases (λ y. length y ≡ length d) (λ h. refl) (λ h. length-set d u (via l d x e w))

  -- In the distances y afterwards, v is where the arc starts and has the nearer way.
  pub record Shortened (y : List ℕ) (v : ℕ) : Type 0 where
    pub at : v ≡ u
    pub shorter : via l d x e w < get_or d v 0
    pub now : get_or y v 0 ≡ via l d x e w

  pub relaxed-entry : (v : ℕ) → (get_or (relaxed l d x u e w) v 0 ≡ get_or d v 0) ⊎ Shortened (relaxed l d x u e w) v
  relaxed-entry v = relaxed-cases (λ y. (get_or y v 0 ≡ get_or d v 0) ⊎ Shortened y v) (λ h. inl refl) stored
    where
      stored : via l d x e w < get_or d u 0 → (get_or (set d u (via l d x e w)) v 0 ≡ get_or d v 0) ⊎ Shortened (set d u (via l d x e w)) v
      stored h =
          ⊎_elim
          inl
          (λ (q : (v ≡ u) × (get_or (set d u (via l d x e w)) v 0 ≡ via l d x e w)).
          inr (record { at = q.0; shorter = rw q.0 h; now = q.1 }))
          (set-entry d u (via l d x e w) v)

  -- The end of the arc keeps its entry: the way over the arc is farther than that.
  pub relaxed-end : get_or (relaxed l d x u e w) w 0 ≡ get_or d w 0
  relaxed-end =
      ⊎_elim
      (λ (h : get_or (relaxed l d x u e w) w 0 ≡ get_or d w 0). h)
      (λ (h : Shortened (relaxed l d x u e w) w). absurd (omega (arith, h.shorter)))
      (relaxed-entry w)

  pub relaxed-le : (v : ℕ) → get_or (relaxed l d x u e w) v 0 ≤ get_or d v 0
  relaxed-le v =
      ⊎_elim
      (λ (h : get_or (relaxed l d x u e w) v 0 ≡ get_or d v 0). omega arith)
      (λ (h : Shortened (relaxed l d x u e w) v). omega arith)
      (relaxed-entry v)

  -- Where the arc does not shorten, nothing changes.
  pub relaxed-same : shortens l d x u e w ≡ false → relaxed l d x u e w ≡ d
  unfolding relaxed
  relaxed-same h = rw h

  -- Afterwards the arc does not shorten the distance that its start had.
  pub relaxed-over : u < length d → get_or (relaxed l d x u e w) u 0 ≤ via l d x e w
  relaxed-over b =
      relaxed-cases
      (λ y. get_or y u 0 ≤ via l d x e w)
      (λ h. h)
      (λ h. omega (arith, get_or-set_same d u (via l d x e w) 0 b))

  -- Where the arc shortens, its start is nearer, and the sum of all entries less.
  pub relaxed-falls :
      (net : Network) → u ≤ net.nodes → u < length d → shortens l d x u e w ≡ true → total net (relaxed l d x u e w) < total net d
  unfolding shortens total
  relaxed-falls net a b h =
      sum_lt
      (suc net.nodes)
      (λ v. get_or (relaxed l d x u e w) v 0)
      (λ v. get_or d v 0)
      u
      (omega arith)
      (λ v c. relaxed-le v)
      (omega (arith, relaxed-over b, ltb-true (via l d x e w) (get_or d u 0) h))
