-- What stands before the first choice.
use Rattle.std.specs.Prelude.{◌≡◌, List, ℕ, ◌*◌, ◌≤◌, ℤ, length}
use Rattle.bounds.specs.Bounds.{most_nodes, most_arcs}
use Rattle.network.specs.Network.{Network, arcs, commodities}
use Rattle.network.specs.Resources.{resource_capacities}
use Rattle.packed.specs.Packed.{net_in, Lent, table_numbers}
use Rattle.packed.specs.declared.Shape.{Shape}
use Rattle.method.specs.Iteration.{initial, weight}
use Rattle.index.specs.Index.{index_numbers}
use Rattle.index.specs.Indexing.{Indexable}
use Rattle.memory.specs.Memory.{memory_numbers, Memory}
use Rattle.choice.specs.Calls.{indexes_numbers}
use Rattle.step.specs.Progress.{state_in, begun}

-- The tables are those of the method's start, the memory holds by its lengths, and d is their D.
pub record Cleared (s : Shape) (net : Network) (flow : List ℤ) (tables memory : List ℕ) (d : ℕ) : Type 0 where
  pub state : state_in s flow tables begun ≡ initial net
  pub memory-of : Memory s net (state_in s flow tables begun).lengths memory
  pub weight : d ≡ weight net (state_in s flow tables begun).lengths

-- A network whose resources are counted, and room for what is made of it.
pub record Laying (s : Shape) (net : List ℕ) (numbers : ℕ) : Type 0 where
  pub indexable : Indexable s net index_numbers
  pub few : s.resources ≤ most_arcs
  pub room : indexes_numbers ≤ numbers

-- The sizes of the tables, for an accepted network and the capacities of its resources.
pub record Preparing (s : Shape) (q : ℕ) (net caps : List ℕ) (flow : List ℤ) (tables memory : List ℕ) : Type 0 where
  pub lent : Lent s q net
  pub caps-are : caps ≡ resource_capacities (net_in s net)
  pub flows : length flow ≡ commodities (net_in s net) * arcs (net_in s net)
  pub tabled : table_numbers ≤ length tables
  pub memorised : memory_numbers ≤ length memory

-- What the solver asks with work space lent.
pub record Working (s : Shape) (q : ℕ) (net indexes : List ℕ) (flow : List ℤ) (tables memory path : List ℕ) : Type 0 where
  pub lent : Lent s q net
  pub flows : length flow ≡ commodities (net_in s net) * arcs (net_in s net)
  pub tabled : table_numbers ≤ length tables
  pub memorised : memory_numbers ≤ length memory
  pub indexes-of : indexes_numbers ≤ length indexes
  pub path-of : 2 * most_nodes ≤ length path
