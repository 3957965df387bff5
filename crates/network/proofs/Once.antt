-- A path that visits no node twice has no arc twice: it would come to the same ends again.
-- Assumes nothing.
use mathlib.Core.Path.{◌≡◌, refl}
use mathlib.Core.Bool.{Bool, true, false, cond}
use mathlib.Core.Logic.{⊎_elim}
use mathlib.Core.List.{List, [], ◌∷◌}
use Prim.Native.Nat.{ℕ}
use Rattle.arith.specs.Distinct.{Distinct, empty, more}
use Rattle.arith.specs.Member.{Member, first, later, no_member, first-or-later}
use Rattle.network.specs.Network.{Network, tail, head}
use Rattle.network.specs.Path.{Path, forward}
use Rattle.network.specs.Visited.{visited}
use Rattle.network.proofs.Leads.{leads-near, leads-beyond}
use Rattle.network.proofs.Paths.{path-step}

module _ (net : Network) where
  -- The first node is visited.
  start-visited : (v : ℕ) (p : List ℕ) → Member v (visited net v p)
  unfolding visited
  start-visited v [] = first refl
  start-visited v (e ∷ p) = first refl

  -- Both ends of arc e are among these nodes.
  abbrev Both : ℕ → List ℕ → Type 0
  Both e nodes = Member (tail net e) nodes × Member (head net e) nodes

  in_order : (e v w : ℕ) (nodes : List ℕ) (b : Bool) → cond b (tail net e) (head net e) ≡ v → cond b (head net e) (tail net e) ≡ w → Member v nodes →
      Member w nodes → Both e nodes
  in_order e v w nodes true p q m n = (rw p m, rw q n)
  in_order e v w nodes false p q m n = (rw q n, rw p m)

  -- Both ends of each arc are visited.
  pub ends-visited : (v t : ℕ) (p : List ℕ) → Path net v t p → (e : ℕ) → Member e p → Both e (visited net v p)
  unfolding visited
  ends-visited v t [] h e m = absurd (no_member m)
  ends-visited v t (d ∷ p) h e m =
      let s = path-step net v t d p h in
      rw s.1
      (⊎_elim
      (λ (q : e ≡ d).
      rw q
      (in_order d v s.0 (v ∷ visited net s.0 p) (forward net v d) (leads-near net v d s.0 s.1) (leads-beyond net v d s.0 s.1) (first refl)
      (later (start-visited s.0 p))))
      (λ (r : Member e p). let b = ends-visited s.0 t p s.2 e r in (later b.0, later b.1))
      (first-or-later m))

  -- A path that visits no node twice has no arc twice.
  pub distinct-arcs : (v t : ℕ) (p : List ℕ) → Path net v t p → Distinct (visited net v p) → Distinct p
  unfolding visited
  distinct-arcs v t [] h d = empty
  distinct-arcs v t (e ∷ p) h d =
      let s = path-step net v t e p h in
      from_start s.0 (forward net v e) (leads-near net v e s.0 s.1) s.2 (rw s.1 at d) (distinct-arcs s.0 t p s.2)
    where
      from_start :
          (w : ℕ) (b : Bool) → cond b (tail net e) (head net e) ≡ v → Path net w t p → Distinct (v ∷ visited net w p) →
          (Distinct (visited net w p) → Distinct p) → Distinct (e ∷ p)
      from_start w true q k (more new r) g = more (λ m. new (rw q at (ends-visited w t p k e m).0)) (g r)
      from_start w false q k (more new r) g = more (λ m. new (rw q at (ends-visited w t p k e m).1)) (g r)
