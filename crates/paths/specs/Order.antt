-- The order in which a search looks at the nodes. One search leaves it to the next, on the page with the distances: what a search finds does not depend on it,
-- only how soon.
use Rattle.std.specs.Prelude.{◌≡◌, List, ℕ, ◌+◌, ◌≤◌, ◌<◌, length, get_or, take}
use Rattle.network.specs.Ends.{Node}
use Rattle.network.specs.Network.{Network}
use Rattle.paths.specs.Far.{far}
use Rattle.paths.specs.Graph.{Table}

-- How many numbers of a page are distances, where the order begins, and how many numbers a page takes in all.
abbrev pub distance_numbers : ℕ
distance_numbers = 65

abbrev pub order_from : ℕ
order_from = 65

abbrev pub page_numbers : ℕ
page_numbers = 129

-- The node at place p of the order.
abbrev pub node_at : List ℕ → ℕ → ℕ
node_at page p = get_or page (order_from + p) 0

-- At the start the order is 1, 2, .., n.
abbrev pub LinedUp : ℕ → List ℕ → Type 0
LinedUp n page = (p : ℕ) → p < n → node_at page p ≡ p + 1

-- Every place of the order has a node, and every node has a place.
pub record Ordered (net : Network) (page : List ℕ) : Type 0 where
  pub node : (p : ℕ) → p < net.nodes → Node net (node_at page p)
  pub found : (v : ℕ) → Node net v → (p : ℕ) × (p < net.nodes) × (node_at page p ≡ v)

-- What a search leaves on its page.
pub record Searched (net : Network) (l page : List ℕ) (t : ℕ) : Type 0 where
  pub table : Table net l (take distance_numbers page) t far
  pub ordered : Ordered net page

-- The page has n places of the order, and each has one of the nodes 1 to n.
pub record Arranged (n : ℕ) (page : List ℕ) : Type 0 where
  pub room : order_from + n ≤ length page
  pub nodes : (p : ℕ) → p < n → (1 ≤ node_at page p) × (node_at page p ≤ n)

-- The order has the same nodes at its first n places as it had, and the distances are as they were.
pub record Rearranged (n : ℕ) (old page : List ℕ) : Type 0 where
  pub distances : (v : ℕ) → v < distance_numbers → get_or page v 0 ≡ get_or old v 0
  pub had : (p : ℕ) → p < n → (q : ℕ) × (q < n) × (node_at page p ≡ node_at old q)
  pub has : (p : ℕ) → p < n → (q : ℕ) × (q < n) × (node_at page q ≡ node_at old p)
