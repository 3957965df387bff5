-- What the choice asks of the slices that it is lent.
use Rattle.std.specs.Prelude.{◌≡◌, List, ℕ, ◌*◌, ◌≤◌, length}
use Rattle.bounds.specs.Bounds.{most_nodes}
use Rattle.network.specs.Network.{Network, sink}
use Rattle.network.specs.Resources.{resources, resource_capacities}
use Rattle.packed.specs.Packed.{part, net_in, Packed}
use Rattle.packed.specs.declared.Shape.{Shape}
use Rattle.index.specs.Index.{index_numbers, Into, Out}
use Rattle.memory.specs.Memory.{Known, Memory}
use Rattle.choice.specs.Search.{Survey}

-- The search for the sink t of commodity i, which is of least bound, over the arcs into each node.
pub record Looking (s : Shape) (net into l : List ℕ) (t i : ℕ) (memory : List ℕ) : Type 0 where
  pub packed : Packed s net
  pub survey : Survey (net_in s net) l
  pub index : Into (net_in s net) into
  pub known : Known s (net_in s net) l memory i
  pub to : t ≡ sink (net_in s net) i

-- Behind two indexes stand the capacities of the resources; and so many numbers they take.
abbrev pub resource_capacities_from : ℕ
resource_capacities_from = 2310

abbrev pub indexes_numbers : ℕ
indexes_numbers = 2566

-- One slice has both indexes of the arcs and the capacities of the resources, one behind the other.
pub record Indexed (net : Network) (indexes : List ℕ) : Type 0 where
  pub numbers : indexes_numbers ≤ length indexes
  pub into : Into net (part 0 index_numbers indexes)
  pub out : Out net (part index_numbers index_numbers indexes)
  pub capacities : part resource_capacities_from (resources net) indexes ≡ resource_capacities net

-- The walk of commodity i over the arcs out of each node, into a table with this many places: for arcs and for nodes.
pub record Following (s : Shape) (net indexes l : List ℕ) (i : ℕ) (memory : List ℕ) (places : ℕ) : Type 0 where
  pub packed : Packed s net
  pub survey : Survey (net_in s net) l
  pub indexed : Indexed (net_in s net) indexes
  pub known : Known s (net_in s net) l memory i
  pub room : 2 * most_nodes ≤ places

-- Both, by what the memory notes.
pub record Choosing (s : Shape) (net indexes l memory : List ℕ) (places : ℕ) : Type 0 where
  pub packed : Packed s net
  pub counted : s.resources ≡ resources (net_in s net)
  pub survey : Survey (net_in s net) l
  pub indexed : Indexed (net_in s net) indexes
  pub memory-of : Memory s (net_in s net) l memory
  pub room : 2 * most_nodes ≤ places
