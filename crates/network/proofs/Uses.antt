-- What a path uses: resources of the network, none twice where no node is visited twice; and its length, which falls apart by arcs and nodes.
-- Assumes nothing.
use mathlib.Core.Path.{◌≡◌, refl, ◌∙◌}
use mathlib.Core.Bool.{Bool, true, false, cond}
use mathlib.Core.Logic.{⊎_elim}
use mathlib.Core.Option.{some, some-injective}
use mathlib.Core.List.{List, [], ◌∷◌, ◌++◌}
use Prim.Native.Nat.{ℕ, ◌+◌, ◌*◌, ◌≤◌, ◌<◌}
use native.Mathlib.Omega.{arith}
use lib.ListN.{length, get_or, length-append}
use Rattle.arith.specs.Distinct.{Distinct, empty, more}
use Rattle.arith.specs.Lists.{flat}
use Rattle.arith.specs.Member.{Member, first, later, no_member, only-member, left-or-right, member_right}
use Rattle.arith.proofs.Members.{member-flat, flat-member}
use Rattle.network.specs.Ends.{Node, Ends}
use Rattle.network.specs.Network.{Network, limited}
use Rattle.network.specs.Onward.{onward, node_length}
use Rattle.network.specs.Path.{Path, follow, leads, path_length}
use Rattle.network.specs.Resources.{place, resources, used_at, uses}
use Rattle.network.specs.Visited.{visited}
use Rattle.network.proofs.Leads.{leads-beyond}
use Rattle.network.proofs.Nodes.{visited-length, visited-node}
use Rattle.network.proofs.Once.{distinct-arcs}
use Rattle.network.proofs.Paths.{path-step, path-arcs, path-some, path_length-append}
use Rattle.network.proofs.Resources.{place-low, place-high, place-injective, arcs-le}

module _ (net : Network) where
  -- What is used of a node is its place, where it is limited.
  pub used_at-limited : (v : ℕ) → limited net v ≡ true → used_at net v ≡ place net v ∷ []
  unfolding used_at
  used_at-limited v h = rw h

  pub used_at-none : (v : ℕ) → limited net v ≡ false → used_at net v ≡ []
  unfolding used_at
  used_at-none v h = rw h

  used_at-member : (r v : ℕ) → Member r (used_at net v) → (limited net v ≡ true) × (r ≡ place net v)
  unfolding used_at
  used_at-member r v m = by-test (limited net v) refl m
    where
      by-test : (b : Bool) → limited net v ≡ b → Member r (cond b (place net v ∷ []) []) → (limited net v ≡ true) × (r ≡ place net v)
      by-test true h m = (h, only-member m)
      by-test false h m = absurd (no_member m)

  -- A limited node that is visited is used.
  pub visited-used : (v s : ℕ) (p : List ℕ) → Member v (visited net s p) → limited net v ≡ true → Member (place net v) (uses net s p)
  unfolding uses
  visited-used v s p m h = member_right p (flat-member (used_at net) m (rw (used_at-limited v h) (first refl)))

  -- All that is used are resources.
  pub uses-below : Ends net → (v t : ℕ) (p : List ℕ) → Node net v → Path net v t p → (r : ℕ) → Member r (uses net v p) → r < resources net
  unfolding uses
  uses-below ends v t p node path r m =
      ⊎_elim
      (λ (k : Member r p). omega (arith, path-arcs net v t p path r k, arcs-le net))
      (λ (k : Member r (flat (used_at net) (visited net v p))).
      let f = member-flat (used_at net) (visited net v p) k in
      let u = used_at-member r f.0 f.2 in
      rw u.1 (place-high net f.0 (visited-node net ends v t p node path f.0 f.1).1 u.0))
      (left-or-right p m)

  -- A path between different nodes uses something.
  pub uses-some : (v t : ℕ) (p : List ℕ) → (v ≡ t → ⊥) → Path net v t p → 1 ≤ length (uses net v p)
  unfolding uses
  uses-some v t p apart path = omega (arith, path-some net v t p apart path, length-append p (flat (used_at net) (visited net v p)))

  -- It uses no more resources than it has arcs and visits nodes.
  used_at-few : (vs : List ℕ) → length (flat (used_at net) vs) ≤ length vs
  unfolding flat used_at
  used_at-few [] = omega arith
  used_at-few (v ∷ vs) = by-test (limited net v) (used_at-few vs)
    where
      by-test : (b : Bool) → length (flat (used_at net) vs) ≤ length vs →
          length (cond b (place net v ∷ []) [] ++ flat (used_at net) vs) ≤ length (v ∷ vs)
      by-test true h = omega arith
      by-test false h = omega arith

  pub uses-few : (v t : ℕ) (p : List ℕ) → Path net v t p → length (uses net v p) ≤ 2 * length p + 1
  unfolding uses
  uses-few v t p path =
      omega (
        arith,
        length-append p (flat (used_at net) (visited net v p)),
        used_at-few (visited net v p),
        visited-length net v t p path,
      )

  -- Different nodes are different resources.
  used_at-distinct : (vs : List ℕ) → Distinct vs → Distinct (flat (used_at net) vs)
  unfolding flat used_at
  used_at-distinct [] d = empty
  used_at-distinct (v ∷ vs) (more new d) = by-test (limited net v) refl (used_at-distinct vs d)
    where
      by-test : (b : Bool) → limited net v ≡ b → Distinct (flat (used_at net) vs) → Distinct (cond b (place net v ∷ []) [] ++ flat (used_at net) vs)
      by-test true h rest =
          more
          (λ m.
          let f = member-flat (used_at net) vs m in
          let u = used_at-member (place net v) f.0 f.2 in
          new (rw (place-injective net v f.0 h u.0 u.1) f.1))
          rest
      by-test false h rest = rest

  distinct_append : (xs ys : List ℕ) → Distinct xs → Distinct ys → ((x : ℕ) → Member x xs → Member x ys → ⊥) → Distinct (xs ++ ys)
  distinct_append [] ys d e apart = e
  distinct_append (x ∷ xs) ys (more new d) e apart =
      more
      (λ m. ⊎_elim (λ (k : Member x xs). new k) (λ (k : Member x ys). apart x (first refl) k) (left-or-right xs m))
      (distinct_append xs ys d e (λ y a b. apart y (later a) b))

  -- A path that visits no node twice uses nothing twice.
  pub uses-distinct : (v t : ℕ) (p : List ℕ) → Path net v t p → Distinct (visited net v p) → Distinct (uses net v p)
  unfolding uses
  uses-distinct v t p path d =
      distinct_append p (flat (used_at net) (visited net v p)) (distinct-arcs net v t p path d) (used_at-distinct (visited net v p) d)
      (λ r a b.
      let f = member-flat (used_at net) (visited net v p) b in
      let u = used_at-member r f.0 f.2 in
      absurd (omega (arith, path-arcs net v t p path r a, place-low net f.0, u.1)))

module _ (net : Network) (l : List ℕ) where
  -- The length of a node: that of its resource, if it is limited.
  pub node_length-is : (v : ℕ) → node_length net l v ≡ cond (limited net v) (get_or l (place net v) 0) 0
  unfolding node_length used_at path_length
  node_length-is v = by-test (limited net v)
    where
      by-test : (b : Bool) → path_length l (cond b (place net v ∷ []) []) ≡ cond b (get_or l (place net v) 0) 0
      by-test true = omega arith
      by-test false = refl

  pub onward-step : (v e w : ℕ) (p : List ℕ) → leads net v e ≡ some w →
      onward net l v (e ∷ p) ≡ get_or l e 0 + (node_length net l w + onward net l w p)
  unfolding onward
  onward-step v e w p h = rw (leads-beyond net v e w h) (omega arith)

  -- The length of a path: of its first node, and onward.
  used_at-length : (v t : ℕ) (p : List ℕ) → Path net v t p →
      path_length l p + path_length l (flat (used_at net) (visited net v p)) ≡ node_length net l v + onward net l v p
  unfolding flat visited onward node_length path_length
  used_at-length v t [] h = omega (arith, path_length-append l (used_at net v) [])
  used_at-length v t (e ∷ p) h =
      let s = path-step net v t e p h in
      rw (s.1, leads-beyond net v e s.0 s.1)
      (omega (
        arith,
        used_at-length s.0 t p s.2,
        path_length-append l (used_at net v) (flat (used_at net) (visited net s.0 p)),
      ))

  pub uses-length : (v t : ℕ) (p : List ℕ) → Path net v t p → path_length l (uses net v p) ≡ node_length net l v + onward net l v p
  unfolding uses
  uses-length v t p h = path_length-append l p (flat (used_at net) (visited net v p)) ∙ used_at-length v t p h

  -- One path after another.
  pub onward-append : (v w : ℕ) (p q : List ℕ) → Path net v w p → onward net l v (p ++ q) ≡ onward net l v p + onward net l w q
  unfolding onward follow
  onward-append v w [] q h = rw (some-injective v w h) (omega arith)
  onward-append v w (e ∷ p) q h =
      let s = path-step net v w e p h in
      rw (leads-beyond net v e s.0 s.1) (omega (arith, onward-append s.0 w p q s.2))
