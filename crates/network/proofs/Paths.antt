-- Paths taken apart and put together: the first arc and the rest, one path after another; and the lengths of these.
-- Assumes nothing.
use mathlib.Core.Path.{◌≡◌, refl, sym, ◌∙◌}
use mathlib.Core.Logic.{⊎_elim}
use mathlib.Core.Option.{Option, none, some, bind, bind-eq-some_iff, some-injective}
use mathlib.Core.List.{List, [], ◌∷◌, ◌++◌}
use Prim.Native.Nat.{ℕ, ◌+◌, ◌≤◌, ◌<◌}
use native.Mathlib.Omega.{arith}
use lib.ListN.{length, get_or}
use Rattle.arith.specs.Member.{Member, first, later, no_member, first-or-later}
use Rattle.network.specs.Network.{Network, arcs}
use Rattle.network.specs.Path.{leads, follow, Path, path_length}
use Rattle.network.proofs.Leads.{leads-arc}

module _ (net : Network) where
  -- The first arc leads from the start to some node, and the rest is a path from there.
  pub path-step : (v t e : ℕ) (p : List ℕ) → Path net v t (e ∷ p) → (w : ℕ) × (leads net v e ≡ some w) × Path net w t p
  unfolding follow
  path-step v t e p h = (bind-eq-some_iff (leads net v e) (λ w. follow net w p)).0 h

  pub path-cons : (v w t e : ℕ) (p : List ℕ) → leads net v e ≡ some w → Path net w t p → Path net v t (e ∷ p)
  unfolding follow
  path-cons v w t e p q h = (bind-eq-some_iff (leads net v e) (λ w. follow net w p)).1 (w, q, h)

  -- The arcs of a path are arcs of the network.
  pub path-arcs : (v t : ℕ) (p : List ℕ) → Path net v t p → (e : ℕ) → Member e p → e < arcs net
  path-arcs v t [] h e m = absurd (no_member m)
  path-arcs v t (d ∷ p) h e m =
      let s = path-step v t d p h in
      ⊎_elim
      (λ (q : e ≡ d). rw q (leads-arc net v d s.0 s.1))
      (λ (r : Member e p). path-arcs s.0 t p s.2 e r)
      (first-or-later m)

  -- A path between different nodes has an arc.
  pub path-some : (v t : ℕ) (p : List ℕ) → (v ≡ t → ⊥) → Path net v t p → 1 ≤ length p
  unfolding follow
  path-some v t [] apart h = absurd (apart (some-injective v t h))
  path-some v t (e ∷ p) apart h = omega arith

  -- Following one list of arcs after another.
  pub follow-append : (v : ℕ) (p q : List ℕ) → follow net v (p ++ q) ≡ bind (follow net v p) (λ w. follow net w q)
  unfolding follow bind
  follow-append v [] q = refl
  follow-append v (e ∷ p) q = from (leads net v e) (λ w. follow-append w p q)
    where
      from :
          (o : Option ℕ) → ((w : ℕ) → follow net w (p ++ q) ≡ bind (follow net w p) (λ u. follow net u q)) → bind o (λ w. follow net w (p ++ q)) ≡
          bind (bind o (λ w. follow net w p)) (λ w. follow net w q)
      from none h = refl
      from (some w) h = h w

  pub path-append : (v w t : ℕ) (p q : List ℕ) → Path net v w p → Path net w t q → Path net v t (p ++ q)
  path-append v w t p q h k = follow-append v p q ∙ (bind-eq-some_iff (follow net v p) (λ w. follow net w q)).1 (w, h, k)

  pub append-path : (v t : ℕ) (p q : List ℕ) → Path net v t (p ++ q) → (w : ℕ) × Path net v w p × Path net w t q
  append-path v t p q h = (bind-eq-some_iff (follow net v p) (λ w. follow net w q)).0 (sym (follow-append v p q) ∙ h)

pub path_length-append : (l p q : List ℕ) → path_length l (p ++ q) ≡ path_length l p + path_length l q
unfolding path_length
path_length-append l [] q = omega arith
path_length-append l (e ∷ p) q = omega (arith, path_length-append l p q)

-- Where every arc has a length of at least 1, a path is at least as long as it has arcs.
pub length-le-path_length : (l p : List ℕ) → ((e : ℕ) → Member e p → 1 ≤ get_or l e 0) → length p ≤ path_length l p
unfolding path_length
length-le-path_length l [] h = omega arith
length-le-path_length l (e ∷ p) h = omega (arith, h e (first refl), length-le-path_length l p (λ d m. h d (later m)))
