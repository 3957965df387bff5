-- What the run asks of the slices that it is lent.
use Rattle.std.specs.Prelude.{◌≡◌, List, ℕ, ◌*◌, ◌≤◌}
use Rattle.std.proofs.Math.Option.{some}
use Rattle.bounds.specs.Bounds.{most_nodes}
use Rattle.network.specs.Network.{Network}
use Rattle.packed.specs.Packed.{net_in, Lent, table_numbers}
use Rattle.packed.specs.declared.Shape.{Shape}
use Rattle.method.specs.Choice.{Choice, choice}
use Rattle.method.specs.Iteration.{State, initial, weight}
use Rattle.memory.specs.Memory.{Memory}
use Rattle.choice.specs.Calls.{Indexed}

-- What each part of a run is lent: an accepted network and both indexes of its arcs, with the capacities of its resources; a slice of this many numbers
-- for the tables of the resources, and one for what a path uses.
pub record Space (s : Shape) (q : ℕ) (net indexes : List ℕ) (numbers places : ℕ) : Type 0 where
  pub lent : Lent s q net
  pub indexed : Indexed (net_in s net) indexes
  pub tables : table_numbers ≤ numbers
  pub path : 2 * most_nodes ≤ places

-- Some commodity is joined: whatever the lengths, a path is chosen.
abbrev pub Chooses : Network → Type 0
Chooses net = (l : List ℕ) → (c : Choice) × (choice net l ≡ some c)

-- What the run asks of its start, where D is d.
pub record Starting (s : Shape) (net : Network) (memory : List ℕ) (first : State) (d : ℕ) : Type 0 where
  pub memory-of : Memory s net first.lengths memory
  pub chooses : Chooses net
  pub start : first ≡ initial net
  pub weight : d ≡ weight net first.lengths
