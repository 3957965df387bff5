-- The listed paths from a node to another: exactly the paths of at most as many arcs as there are nodes, those of fewer arcs first, and of as many
-- in dictionary order.
-- Assumes nothing.
use mathlib.Core.Path.{◌≡◌, refl, ap}
use mathlib.Core.Bool.{true, false≢true}
use mathlib.Core.Option.{Option, none, some}
use mathlib.Core.List.{List}
use Prim.Native.Nat.{ℕ, ◌≤◌, ◌<◌}
use native.Mathlib.Omega.{arith}
use lib.ListN.{length}
use borrow.Author.Tests.{eqb-true, eq-eqb}
use Rattle.arith.specs.Member.{Member}
use Rattle.arith.proofs.Members.{member-flat, flat-member, member-keep, keep-member}
use Rattle.arith.proofs.Ranges.{member-up_to, up_to-member}
use Rattle.arith.proofs.Sorted.{Sorted, sorted-flat, sorted-keep, sorted-up_to}
use Rattle.network.specs.Network.{Network, arcs}
use Rattle.network.specs.Path.{follow, Path}
use Rattle.network.proofs.Paths.{path-arcs}
use Rattle.method.specs.Choice.{words, ends_at, paths}
use Rattle.method.proofs.Orders.{Ahead, fewer}
use Rattle.method.proofs.Words.{member-word, word-member, words-sorted}

ends_at-true : (t : ℕ) (o : Option ℕ) → ends_at t o ≡ true → o ≡ some t
unfolding ends_at
ends_at-true t none e = absurd (false≢true e)
ends_at-true t (some w) e = ap {B = Option ℕ} some (eqb-true w t e)

true-ends_at : (t : ℕ) (o : Option ℕ) → o ≡ some t → ends_at t o ≡ true
unfolding ends_at
true-ends_at t o e = rw e (eq-eqb t t refl)

module _ (net : Network) where
  pub member-path : (v t : ℕ) (p : List ℕ) → Member p (paths net v t) → (length p ≤ net.nodes) × Path net v t p
  unfolding paths
  member-path v t p m =
      let k = member-keep (λ p. ends_at t (follow net v p)) _ m in
      let s = member-flat (words (arcs net)) _ k.0 in (
        omega (arith, member-up_to s.0 _ s.1, (member-word (arcs net) s.0 p s.2).size),
        ends_at-true t (follow net v p) k.1,
      )

  pub path-member : (v t : ℕ) (p : List ℕ) → length p ≤ net.nodes → Path net v t p → Member p (paths net v t)
  unfolding paths
  path-member v t p l h =
      keep-member
      (λ p. ends_at t (follow net v p))
      (flat-member
      (words (arcs net))
      (up_to-member (length p) _ (omega arith))
      (word-member (arcs net) (length p) p (record { size = refl; below = path-arcs net v t p h })))
      (true-ends_at t (follow net v p) h)

  words-ahead : (j k : ℕ) (p q : List ℕ) → j < k → Member p (words (arcs net) j) → Member q (words (arcs net) k) → Ahead p q
  words-ahead j k p q l a b = fewer (omega (arith, (member-word (arcs net) j p a).size, (member-word (arcs net) k q b).size))

  -- Of two paths the one that stands earlier has fewer arcs, or as many and is before the other in dictionary order.
  pub paths-sorted : (v t : ℕ) → Sorted Ahead (paths net v t)
  unfolding paths
  paths-sorted v t =
      sorted-keep
      (λ p. ends_at t (follow net v p))
      (sorted-flat (words (arcs net)) (words-sorted (arcs net)) words-ahead (sorted-up_to _))
