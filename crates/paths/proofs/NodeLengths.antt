-- The length of a node, as it is read by an index, is the node's; and it is small.
-- Assumes nothing.
use mathlib.Core.Path.{◌≡◌, refl}
use mathlib.Core.Bool.{Bool, true, false, cond}
use mathlib.Core.List.{List}
use Prim.Native.Nat.{ℕ, ◌^◌, ◌≤◌, ◌<◌}
use native.Mathlib.Omega.{arith}
use lib.ListN.{length, get_or, get_or-eq_default}
use Rattle.network.specs.Network.{Network, limited}
use Rattle.network.specs.Resources.{place, resources}
use Rattle.network.specs.Onward.{node_length}
use Rattle.network.proofs.Resources.{place-high}
use Rattle.network.proofs.Uses.{node_length-is}
use Rattle.index.specs.Index.{resource_of, Stations}
use Rattle.paths.specs.Far.{Bounded}
use Rattle.paths.specs.Through.{through}

module _ (net : Network) (l : List ℕ) where
  -- Past all resources there is no length.
  pub through-is : (ix : List ℕ) → Stations net ix → length l ≡ resources net → (v : ℕ) → v ≤ net.nodes → through ix l v ≡ node_length net l v
  unfolding resource_of
  through-is ix S q v b = rw (S v b, node_length-is net l v) (by-test (limited net v))
    where
      by-test : (c : Bool) → get_or l (cond c (place net v) (resources net)) 0 ≡ cond c (get_or l (place net v) 0) 0
      by-test true = refl
      by-test false = get_or-eq_default l 0 {n = resources net} (omega arith)

  pub node-small : Bounded net l → (v : ℕ) → v ≤ net.nodes → node_length net l v < 2 ^ 40
  node-small small v b = rw (node_length-is net l v) (by-test (limited net v) refl)
    where
      by-test : (c : Bool) → limited net v ≡ c → cond c (get_or l (place net v) 0) 0 < 2 ^ 40
      by-test true h = small (place net v) (place-high net v b h)
      by-test false h = omega arith
