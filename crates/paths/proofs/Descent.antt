-- Below the cap a walk leads to t: each tight arc leads to a nearer node. So a distance below the
-- cap is the key of a path (docs/WORKING.md, "What a distance is").
-- Assumes nothing.
use mathlib.Core.Path.{◌≡◌, refl, sym, ap, subst, ◌∙◌}
use mathlib.Core.Bool.{Bool, true, false}
use mathlib.Core.Logic.{◌⊎◌, inl, inr}
use mathlib.Core.List.{List, [], ◌∷◌}
use mathlib.Core.Option.{Option, none, some, none-ne-some, some-injective}
use Prim.Native.Nat.{ℕ, zero, suc, ◌≤◌, ◌<◌}
use native.Mathlib.Nat.{le_refl}
use native.Mathlib.Omega.{arith}
use lib.Dec.{eqb}
use lib.ListN.{get_or}
use borrow.Author.Tests.{eqb-true, eqb-false}
use Rattle.network.specs.Ends.{Node, Ends}
use Rattle.network.specs.Network.{Network}
use Rattle.network.specs.Path.{leads}
use Rattle.paths.specs.Distances.{over, Way, Distances}
use Rattle.paths.specs.Walk.{Walk, stop, step}
use Rattle.network.proofs.Leads.{leads-into}
use Rattle.paths.proofs.Lowest.{lowest}

-- Whether arc e is such a way is decided by where it leads, and how long that is.
way-or-not : (net : Network) (l d : List ℕ) (v x e : ℕ) → Way net l d v x e ⊎ (Way net l d v x e → ⊥)
way-or-not net l d v x e = by_end (leads net v e) refl
  where
    by-test : (w : ℕ) → leads net v e ≡ some w → (b : Bool) → eqb (over net l d e w) x ≡ b → Way net l d v x e ⊎ (Way net l d v x e → ⊥)
    by-test w h true q = inl (record { to = w; leads-to = h; long = eqb-true _ x q })
    by-test w h false q = inr (λ y. eqb-false _ x q (ap (over net l d e) (some-injective w y.to (sym h ∙ y.leads-to)) ∙ y.long))

    by_end : (o : Option ℕ) → leads net v e ≡ o → Way net l d v x e ⊎ (Way net l d v x e → ⊥)
    by_end none h = inr (λ y. none-ne-some y.to (sym h ∙ y.leads-to))
    by_end (some w) h = by-test w h (eqb (over net l d e w) x) refl

module _ {net : Network} {l d : List ℕ} {t far : ℕ} (ends : Ends net) (D : Distances net l d t far) where
  -- one step, where there is a walk from each nearer node
  onward :
      (v : ℕ) → Node net v → get_or d v 0 < far → ((w : ℕ) → Node net w → get_or d w 0 < get_or d v 0 → (p : List ℕ) × Walk net l d t w p) →
      (p : List ℕ) × Walk net l d t v p
  onward v node near walks = by-test (eqb v t) refl
    where
      by-test : (b : Bool) → eqb v t ≡ b → (p : List ℕ) × Walk net l d t v p
      by-test true q = ([], subst (λ (u : ℕ). Walk net l d t u []) (sym (eqb-true v t q)) stop)
      by-test false q =
          let tight = D.tight v node (eqb-false v t q) near in
          let low = lowest (Way net l d v (get_or d v 0)) (way-or-not net l d v (get_or d v 0)) tight.0 tight.1 in
          let way = low.1.has in
          let rest =
          walks way.to (leads-into net v low.0 way.to way.leads-to ends) (omega (arith, way.long)) in
          (low.0 ∷ rest.0, step (eqb-false v t q) way low.1.none-lower rest.1)

  -- from a node at a distance of at most n
  within : (n v : ℕ) → Node net v → get_or d v 0 < far → get_or d v 0 ≤ n → (p : List ℕ) × Walk net l d t v p
  within zero v node near b = onward v node near (λ w n c. absurd (omega arith))
  within (suc n) v node near b = onward v node near (λ w at-w c. within n w at-w (omega arith) (omega arith))

  -- A walk from each node below the cap.
  pub distance-path : (v : ℕ) → Node net v → get_or d v 0 < far → (p : List ℕ) × Walk net l d t v p
  distance-path v node near = within (get_or d v 0) v node near (le_refl (get_or d v 0))
