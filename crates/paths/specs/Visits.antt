-- The limited nodes of a path, written behind its arcs: what that asks, and what it leaves. Request C-17.
use Rattle.std.specs.Prelude.{◌≡◌, List, ◌++◌, ℕ, ◌*◌, ◌+◌, ◌≤◌, ◌<◌, length, take}
use Rattle.bounds.specs.Bounds.{most_nodes}
use Rattle.network.specs.Ends.{Node, Ends}
use Rattle.network.specs.Network.{Network}
use Rattle.network.specs.Path.{Path}
use Rattle.network.specs.Resources.{resources, used_at, uses}
use Rattle.packed.specs.Packed.{net_in, Packed}
use Rattle.packed.specs.declared.Shape.{Shape}
use Rattle.index.specs.Index.{Out}

-- An arc of a packed network.
pub record Crossed (s : Shape) (xs : List ℕ) (e : ℕ) : Type 0 where
  pub packed : Packed s xs
  pub arc : e < s.arcs

-- Node v is next, and there is a place for it behind the used ones.
pub record Entering (s : Shape) (xs out : List ℕ) (v used size : ℕ) : Type 0 where
  pub counted : s.resources ≡ resources (net_in s xs)
  pub index : Out (net_in s xs) out
  pub node : v ≤ (net_in s xs).nodes
  pub place : used < size

-- Its resource is there, if it has one.
pub record Entered (net : Network) (v used : ℕ) (old new : List ℕ) (r : ℕ) : Type 0 where
  pub written : take r new ≡ take used old ++ used_at net v
  pub low : used ≤ r
  pub high : r ≤ used + 1

-- The first numbers of the table are a path from v, and there is room for its arcs and its nodes.
pub record Visiting (s : Shape) (xs out : List ℕ) (v arcs : ℕ) (path : List ℕ) : Type 0 where
  pub packed : Packed s xs
  pub counted : s.resources ≡ resources (net_in s xs)
  pub ends : Ends (net_in s xs)
  pub index : Out (net_in s xs) out
  pub node : Node (net_in s xs) v
  pub to : ℕ
  pub leads-to : Path (net_in s xs) v to (take arcs path)
  pub few : arcs < most_nodes
  pub room : 2 * most_nodes ≤ length path

-- They are still there, and r of them are what the path uses.
pub record Visits (net : Network) (v arcs : ℕ) (old new : List ℕ) (r : ℕ) : Type 0 where
  pub path : take arcs new ≡ take arcs old
  pub used : take r new ≡ uses net v (take arcs old)
  pub low : arcs ≤ r
  pub high : r ≤ 2 * most_nodes
