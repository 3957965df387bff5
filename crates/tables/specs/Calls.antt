-- What the steps of an iteration ask of their arguments, so that every index is within its table and every product and sum within 64 bits.
-- Assumes nothing.
use Rattle.std.specs.Prelude.{◌≡◌, false, List, ℕ, ◌+◌, ◌*◌, ◌^◌, ◌≤◌, ◌<◌, ℤ, pos, length, get_or}
use Rattle.bounds.specs.Bounds.{most_nodes, most_capacity}
use Rattle.signed.specs.Signed.{size}
use Rattle.network.specs.Network.{Network, arcs, commodities}
use Rattle.packed.specs.Packed.{Packed}
use Rattle.packed.specs.declared.Shape.{Shape}
use Rattle.tables.specs.Tables.{Under, NoneAbove, at_threshold}

-- A draw g over arc e, in the row of a flow that begins at base.
pub record Crossing (s : Shape) (net : List ℕ) (base g e : ℕ) (flow : List ℤ) : Type 0 where
  pub packed : Packed s net
  pub arc : e < s.arcs
  pub place : base + e < length flow
  pub amount : size (get_or flow (base + e) (pos 0)) + g < 2 ^ 63

-- A draw g along a path of a commodity, in its row. Amounts stay far below 2^32, and a path has fewer arcs than there are nodes.
pub record Pushing (net : Network) (commodity : ℕ) (path : List ℕ) (g : ℕ) (flow : List ℤ) : Type 0 where
  pub listed : commodity < commodities net
  pub row : commodity * arcs net + arcs net ≤ length flow
  pub long : length flow < 2 ^ 64
  pub places : Under (arcs net) path
  pub amounts : (j : ℕ) → j < length flow → size (get_or flow j (pos 0)) < 2 ^ 32
  pub small : g ≤ most_capacity
  pub few : length path ≤ most_nodes

-- A draw g added at each resource that a path uses: no more arcs and no more nodes than there are nodes.
pub record Adding (table path : List ℕ) (g : ℕ) : Type 0 where
  pub places : Under (length table) path
  pub amounts : Under (2 ^ 32) table
  pub small : g ≤ most_capacity
  pub few : length path ≤ 2 * most_nodes

-- Loads compared with the threshold times the capacities.
pub record Ending (loads capacities : List ℕ) (threshold : ℕ) : Type 0 where
  pub same : length loads ≡ length capacities
  pub small : threshold ≤ 2 ^ 20
  pub sizes : NoneAbove most_capacity capacities

-- A draw g added to the loads along a path, while no load is at the threshold.
pub record Loading (loads capacities : List ℕ) (threshold : ℕ) (path : List ℕ) (g : ℕ) : Type 0 where
  pub adding : Adding loads path g
  pub ending : Ending loads capacities threshold
  pub none : at_threshold threshold capacities loads ≡ false

-- Loads over capacities compared with each other.
pub record Ranking (loads capacities : List ℕ) : Type 0 where
  pub some : 1 ≤ length loads
  pub same : length loads ≡ length capacities
  pub amounts : Under (2 ^ 32) loads
  pub sizes : NoneAbove most_capacity capacities
