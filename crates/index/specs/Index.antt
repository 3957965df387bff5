-- An index of the arcs at each node: the arcs of one node stand side by side, from the lowest number up. Behind them stands which resource each node is.
-- One slice of numbers holds it, at the places that src/lib.rt names.
use Rattle.std.specs.Prelude.{◌≡◌, cond, List, ℕ, ◌+◌, ◌≤◌, ◌<◌, length, get_or}
use Rattle.std.proofs.Math.Option.{some}
use Rattle.bounds.specs.Bounds.{most_nodes}
use Rattle.network.specs.Network.{Network, limited}
use Rattle.network.specs.Path.{leads}
use Rattle.network.specs.Resources.{place, resources}

-- Where the arcs of node v begin; they go on until those of the next node begin.
abbrev pub begins : List ℕ → ℕ → ℕ
begins ix v = get_or ix v 0

-- Behind these stand the arcs of the places: the arc at place p.
abbrev pub arcs_from : ℕ
arcs_from = 66

abbrev pub arc_at : List ℕ → ℕ → ℕ
arc_at ix p = get_or ix (arcs_from + p) 0

-- Behind them, their other ends.
abbrev pub ends_from : ℕ
ends_from = 578

abbrev pub end_at : List ℕ → ℕ → ℕ
end_at ix p = get_or ix (ends_from + p) 0

-- Behind them, the resources of the nodes, from node 0 on.
abbrev pub places_from : ℕ
places_from = 1090

abbrev pub place_at : List ℕ → ℕ → ℕ
place_at ix v = get_or ix (places_from + v) 0

-- How many places for arcs an index has, twice the most arcs, and how many numbers it takes in all.
abbrev pub most_places : ℕ
most_places = 512

abbrev pub index_numbers : ℕ
index_numbers = 1155

-- Place p is one of v's, and has arc e with the other end w.
pub record Place (ix : List ℕ) (v p e w : ℕ) : Type 0 where
  pub from : begins ix v ≤ p
  pub below : p < begins ix (v + 1)
  pub arc : arc_at ix p ≡ e
  pub end : end_at ix p ≡ w

-- The places of the nodes up to n have just the arcs that R tells. R v e w: arc e is one of v's, and its other end is w.
pub record Index (R : ℕ → ℕ → ℕ → Type 0) (n : ℕ) (ix : List ℕ) : Type 0 where
  pub nodes : n ≤ most_nodes
  pub numbers : index_numbers ≤ length ix
  pub within : (v : ℕ) → v ≤ n → begins ix (v + 1) ≤ most_places
  pub sound : (v p e w : ℕ) → v ≤ n → Place ix v p e w → R v e w
  pub whole : (v e w : ℕ) → v ≤ n → R v e w → (p : ℕ) × Place ix v p e w
  pub ascending : (v p q e f w x : ℕ) → v ≤ n → Place ix v p e w → Place ix v q f x → p < q → e < f

-- The resource that node v is; where it is not limited, a number past all resources, so that it has no length.
unfoldable pub resource_of : Network → ℕ → ℕ
resource_of net v = cond (limited net v) (place net v) (resources net)

-- Each node's is there.
abbrev pub Stations : Network → List ℕ → Type 0
Stations net ix = (v : ℕ) → v ≤ net.nodes → place_at ix v ≡ resource_of net v

-- The arcs that lead to each node,
pub record Into (net : Network) (ix : List ℕ) : Type 0 where
  pub arcs : Index (λ v e u. leads net u e ≡ some v) net.nodes ix
  pub places : Stations net ix

-- and those that lead from it.
pub record Out (net : Network) (ix : List ℕ) : Type 0 where
  pub arcs : Index (λ v e w. leads net v e ≡ some w) net.nodes ix
  pub places : Stations net ix
