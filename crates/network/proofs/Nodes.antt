-- The nodes that a path visits: one more than it has arcs, and all of them nodes of the network. So where none is visited twice, the path has
-- fewer arcs than there are nodes.
-- Assumes nothing.
use mathlib.Core.Path.{◌≡◌, refl, ap}
use mathlib.Core.Logic.{⊎_elim}
use mathlib.Core.Option.{some}
use mathlib.Core.List.{List, [], ◌∷◌}
use Prim.Native.Nat.{ℕ, suc, ◌<◌}
use native.Mathlib.Omega.{arith}
use lib.ListN.{length}
use Rattle.arith.specs.Distinct.{Distinct}
use Rattle.arith.specs.Member.{Member, first-or-later, only-member}
use Rattle.arith.proofs.Pigeonhole.{distinct-few}
use Rattle.network.specs.Ends.{Node, Ends}
use Rattle.network.specs.Network.{Network}
use Rattle.network.specs.Path.{leads, Path}
use Rattle.network.specs.Visited.{visited}
use Rattle.network.proofs.Leads.{leads-into}
use Rattle.network.proofs.Paths.{path-step}

module _ (net : Network) where
  pub visited-cons : (v w e : ℕ) (p : List ℕ) → leads net v e ≡ some w → visited net v (e ∷ p) ≡ v ∷ visited net w p
  unfolding visited
  visited-cons v w e p h = rw h

  -- One node more than arcs.
  pub visited-length : (v t : ℕ) (p : List ℕ) → Path net v t p → length (visited net v p) ≡ suc (length p)
  unfolding visited
  visited-length v t [] h = refl
  visited-length v t (e ∷ p) h = let s = path-step net v t e p h in rw s.1 (ap suc (visited-length s.0 t p s.2))

  pub visited-node : Ends net → (v t : ℕ) (p : List ℕ) → Node net v → Path net v t p → (u : ℕ) → Member u (visited net v p) → Node net u
  unfolding visited
  visited-node ends v t [] n h u m = rw (only-member m) n
  visited-node ends v t (e ∷ p) n h u m =
      let s = path-step net v t e p h in
      ⊎_elim
      (λ (q : u ≡ v). rw q n)
      (λ (r : Member u (visited net s.0 p)). visited-node ends s.0 t p (leads-into net v e s.0 s.1 ends) s.2 u r)
      (first-or-later (rw s.1 at m))

  -- A path that visits no node twice has fewer arcs than there are nodes.
  pub distinct-path-few : Ends net → (v t : ℕ) (p : List ℕ) → Node net v → Path net v t p → Distinct (visited net v p) → length p < net.nodes
  distinct-path-few ends v t p n h d =
      omega (arith, visited-length v t p h, distinct-few net.nodes d (visited-node ends v t p n h))
