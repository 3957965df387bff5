-- The candidates of the choice: exactly the listed paths of each commodity, lower commodities first, and of one commodity in their order.
-- Assumes nothing.
use mathlib.Core.Path.{◌≡◌, refl, ap, subst}
use mathlib.Core.List.{List, map}
use Prim.Native.Nat.{ℕ, ◌≤◌, ◌<◌}
use native.Mathlib.Omega.{arith}
use lib.ListN.{length}
use Rattle.arith.specs.Lists.{up_to}
use Rattle.arith.specs.Member.{Member, map-member, member-map}
use Rattle.arith.proofs.Members.{member-flat, flat-member}
use Rattle.arith.proofs.Ranges.{member-up_from, up_from-member}
use Rattle.arith.proofs.Sorted.{Sorted, sorted-map, sorted-flat, sorted-up_from}
use Rattle.network.specs.Network.{Network, commodities, source, sink}
use Rattle.network.specs.Path.{Path}
use Rattle.method.specs.Choice.{Choice, choice_of, paths, candidates}
use Rattle.method.proofs.Listed.{member-path, path-member, paths-sorted}
use Rattle.method.proofs.Orders.{Ahead, ahead-not-behind}

-- A choice is earlier than another: a lower commodity, or the same and a path ahead of the other's.
pub data Earlier (c d : Choice) : Type 0 where
  lower : c.commodity < d.commodity → Earlier c d
  ahead : c.commodity ≡ d.commodity → Ahead c.path d.path → Earlier c d

pub earlier-not-later : (c d : Choice) → Earlier c d → Earlier d c → ⊥
earlier-not-later c d (lower a) (lower b) = omega arith
earlier-not-later c d (lower a) (ahead b k) = omega arith
earlier-not-later c d (ahead a h) (lower b) = omega arith
earlier-not-later c d (ahead a h) (ahead b k) = ahead-not-behind h k

-- A commodity of the network with a path for it, of at most as many arcs as there are nodes.
pub record Candidate (net : Network) (c : Choice) : Type 0 where
  pub commodity : c.commodity < commodities net
  pub path : Path net (source net c.commodity) (sink net c.commodity) c.path
  pub short : length c.path ≤ net.nodes

module _ (net : Network) where
  -- the candidates of one commodity
  abbrev of : ℕ → List Choice
  of i = map (choice_of i) (paths net (source net i) (sink net i))

  pub member-candidate : (c : Choice) → Member c (candidates net) → Candidate net c
  unfolding candidates up_to
  member-candidate c m =
      let s = member-flat of _ m in
      let t = member-map (choice_of s.0) _ s.2 in
      let k = member-path net (source net s.0) (sink net s.0) t.0 t.1 in
      subst
      (Candidate net)
      t.2
      (record { commodity = omega (arith, member-up_from s.0 _ _ s.1); path = k.1; short = k.0 })

  pub candidate-member : (c : Choice) → Candidate net c → Member c (candidates net)
  unfolding candidates up_to
  candidate-member c k =
      flat-member
      of
      (up_from-member c.commodity _ _ (omega arith) (omega (arith, k.commodity)))
      (map-member (choice_of c.commodity) (path-member net _ _ c.path k.short k.path))

  of-commodity : (i : ℕ) (c : Choice) → Member c (of i) → i ≡ c.commodity
  of-commodity i c m = ap (λ (c : Choice). c.commodity) (member-map (choice_of i) (paths net (source net i) (sink net i)) m).2

  -- Of two candidates the one that stands first is earlier.
  pub candidates-sorted : Sorted Earlier (candidates net)
  unfolding candidates up_to
  candidates-sorted =
      sorted-flat
      of
      (λ i. sorted-map (choice_of i) (λ p q b. ahead refl b) (paths-sorted net (source net i) (sink net i)))
      (λ i j c d l a b. lower (omega (arith, of-commodity i c a, of-commodity j d b)))
      (sorted-up_from _ _)
