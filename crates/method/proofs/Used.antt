-- What the chosen path uses: at least one resource, all of the network, none twice; and a node that is visited is used as often.
-- Assumes nothing.
use mathlib.Core.Path.{◌≡◌, refl}
use mathlib.Core.Bool.{Bool, true, false, cond}
use mathlib.Core.List.{List, [], ◌∷◌, ◌++◌}
use Prim.Native.Nat.{ℕ, ◌+◌, ◌≤◌, ◌<◌}
use native.Mathlib.Omega.{arith}
use borrow.Author.Tests.{eqb-true}
use lib.Dec.{eqb}
use lib.ListN.{length}
use Rattle.arith.specs.Distinct.{Distinct}
use Rattle.arith.specs.Lists.{flat}
use Rattle.arith.specs.Member.{Member, first, later}
use Rattle.arith.specs.Times.{times}
use Rattle.network.specs.Ends.{Ends}
use Rattle.network.specs.Network.{Network, arcs, limited, source, sink}
use Rattle.network.specs.Resources.{place, resources, used_at, uses}
use Rattle.network.specs.Visited.{visited}
use Rattle.network.proofs.Paths.{path-arcs}
use Rattle.network.proofs.Uses.{used_at-limited, uses-below, uses-some, uses-distinct}
use Rattle.method.specs.Choice.{Choice, used_by}
use Rattle.method.specs.Chosen.{Chosen}
use Rattle.method.proofs.Times.{Below, none, also, once-same}

pub members-below : {n : ℕ} (p : List ℕ) → ((e : ℕ) → Member e p → e < n) → Below n p
members-below [] h = none
members-below (e ∷ p) h = also (h e (first refl)) (members-below p (λ d m. h d (later m)))

module _ (net : Network) (l : List ℕ) (c : Choice) (x : Chosen net l c) where
  pub chosen-arcs : (e : ℕ) → Member e c.path → e < arcs net
  chosen-arcs = path-arcs net (source net c.commodity) (sink net c.commodity) c.path x.path

  pub chosen-below : Ends net → (r : ℕ) → Member r (used_by net c) → r < resources net
  chosen-below ends =
      uses-below net ends (source net c.commodity) (sink net c.commodity) c.path (ends.sources c.commodity x.commodity) x.path

  pub chosen-distinct : Distinct (used_by net c)
  chosen-distinct = uses-distinct net (source net c.commodity) (sink net c.commodity) c.path x.path x.distinct

  pub chosen-some : Ends net → 1 ≤ length (used_by net c)
  chosen-some ends =
      uses-some net (source net c.commodity) (sink net c.commodity) c.path (ends.apart c.commodity x.commodity) x.path

times-append : (e : ℕ) (xs ys : List ℕ) → times e (xs ++ ys) ≡ times e xs + times e ys
unfolding times
times-append e [] ys = omega arith
times-append e (x ∷ xs) ys = omega (arith, times-append e xs ys)

module _ (net : Network) where
  -- An arc is used as often as the path has it,
  pub arc-used : (e v : ℕ) (p : List ℕ) → times e p ≤ times e (uses net v p)
  unfolding uses
  arc-used e v p = omega (arith, times-append e p (flat (used_at net) (visited net v p)))

  -- and a limited node as often as it is visited.
  times-used_at : (u v : ℕ) → limited net u ≡ true → cond (eqb v u) 1 0 ≤ times (place net u) (used_at net v)
  unfolding times
  times-used_at u v h = by-test (eqb v u) refl
    where
      by-test : (b : Bool) → eqb v u ≡ b → cond b 1 0 ≤ times (place net u) (used_at net v)
      by-test true q = rw (eqb-true v u q, used_at-limited net u h) (omega (arith, once-same (place net u)))
      by-test false q = omega arith

  times-visited : (u : ℕ) (vs : List ℕ) → limited net u ≡ true → times u vs ≤ times (place net u) (flat (used_at net) vs)
  unfolding times flat
  times-visited u [] h = omega arith
  times-visited u (v ∷ vs) h =
      omega (arith, times-append (place net u) (used_at net v) (flat (used_at net) vs), times-used_at u v h, times-visited u vs h)

  pub node-used : (u v : ℕ) (p : List ℕ) → limited net u ≡ true → times u (visited net v p) ≤ times (place net u) (uses net v p)
  unfolding uses
  node-used u v p h = omega (arith, times-append (place net u) p (flat (used_at net) (visited net v p)), times-visited u (visited net v p) h)
