-- What the functions of a search and of a walk ask of the tables that they are lent.
use Rattle.std.specs.Prelude.{◌≡◌, List, ℕ, ◌+◌, ◌≤◌, ◌<◌, length}
use Rattle.network.specs.Ends.{Node}
use Rattle.network.specs.Network.{Network}
use Rattle.network.specs.Onward.{node_length}
use Rattle.paths.specs.Far.{far}
use Rattle.paths.specs.Graph.{Fit, Capped}
use Rattle.index.specs.Index.{begins, Into, Out}
use Rattle.paths.specs.Order.{page_numbers, Ordered}
use Rattle.paths.specs.Relax.{onward_of}
use Rattle.paths.specs.Searching.{Searching, Passed}

-- The relaxation of the arc at place p, one of those into v, from which on it is o, with those at the places before it relaxed.
pub record Reaching (net : Network) (into l : List ℕ) (t v o p : ℕ) (d listed : List ℕ) (size : ℕ) : Type 0 where
  pub searching : Searching net l t (Passed into v p) d listed size
  pub index : Into net into
  pub node : v ≤ net.nodes
  pub own : o ≡ onward_of d (node_length net l v) v
  pub from : begins into v ≤ p
  pub below : p < begins into (v + 1)

-- The relaxation of all arcs into v.
pub record Entering (net : Network) (into l : List ℕ) (t v : ℕ) (d listed : List ℕ) (size : ℕ) : Type 0 where
  pub searching : Searching net l t (Passed into v (begins into v)) d listed size
  pub index : Into net into
  pub node : v ≤ net.nodes

-- The search for the distances to t, on a page with an order of the nodes.
pub record Seeking (net : Network) (into l : List ℕ) (t : ℕ) (page : List ℕ) : Type 0 where
  pub fit : Fit net l (length page)
  pub sink : Node net t
  pub index : Into net into
  pub room : page_numbers ≤ length page
  pub ordered : Ordered net page

-- The search for a tight arc from v.
pub record Leaving (net : Network) (out l d : List ℕ) (v : ℕ) : Type 0 where
  pub fit : Fit net l (length d)
  pub index : Out net out
  pub capped : Capped net d far
  pub node : v ≤ net.nodes
