-- What is remembered from choice to choice, in one slice: a bound for each commodity, which of them is the least, and a page for each node.
use Rattle.std.specs.Prelude.{List, ℕ, ◌+◌, ◌*◌, ◌≤◌, length, get_or}
use Rattle.network.specs.Ends.{Node}
use Rattle.network.specs.Network.{Network, commodities}
use Rattle.packed.specs.Packed.{part}
use Rattle.packed.specs.declared.Shape.{Shape}
use Rattle.paths.specs.Distances.{Feasible}
use Rattle.paths.specs.Far.{far}
use Rattle.paths.specs.Graph.{Capped}
use Rattle.paths.specs.Order.{distance_numbers, page_numbers, Ordered}
use Rattle.memory.specs.Below.{Below}
use Rattle.memory.specs.Least.{Least}

-- The bounds come first,
abbrev pub bounds_in : Shape → List ℕ → List ℕ
bounds_in s memory = part 0 s.commodities memory

-- then, at the places that src/lib.rt names, the commodity of least bound,
abbrev pub least_at : ℕ
least_at = 32

abbrev pub least_in : List ℕ → ℕ
least_in memory = get_or memory least_at 0

-- and the pages, from node 0 on. On that of t stand a number for each node, which is its distance to t once it is searched for, and behind these an order.
abbrev pub pages_from : ℕ
pages_from = 33

abbrev pub page_from : ℕ → ℕ
page_from t = pages_from + page_numbers * t

abbrev pub page_in : ℕ → List ℕ → List ℕ
page_in t memory = part (page_from t) page_numbers memory

abbrev pub distances_in : ℕ → List ℕ → List ℕ
distances_in t memory = part (page_from t) distance_numbers memory

-- They take so many numbers.
abbrev pub memory_numbers : ℕ
memory_numbers = 8418

-- The page of t is feasible by the lengths l, and has the nodes in some order.
pub record Page (net : Network) (l memory : List ℕ) (t : ℕ) : Type 0 where
  pub feasible : Feasible net l (distances_in t memory) t
  pub capped : Capped net (distances_in t memory) far
  pub ordered : Ordered net (page_in t memory)

-- There is a place for each number, the bounds are below the paths by the lengths l, commodity i is the lowest-numbered of least bound, and the page of
-- each node is feasible.
pub record Known (s : Shape) (net : Network) (l memory : List ℕ) (i : ℕ) : Type 0 where
  pub places : memory_numbers ≤ length memory
  pub below : Below net l (bounds_in s memory)
  pub least : Least (bounds_in s memory) (commodities net) i
  pub pages : (t : ℕ) → Node net t → Page net l memory t

-- Between choices that commodity is noted.
abbrev pub Memory : Shape → Network → List ℕ → List ℕ → Type 0
Memory s net l memory = Known s net l memory (least_in memory)
