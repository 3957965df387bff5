-- What the steps of the lengths ask of their arguments, so that every index is within its table and every product and sum within 64 bits.
-- Assumes nothing.
use Rattle.std.specs.Prelude.{◌≡◌, List, ℕ, ◌*◌, ◌^◌, ◌≤◌, ◌<◌, length, get_or}
use Rattle.arith.specs.Times.{times}
use Rattle.bounds.specs.Bounds.{most_nodes, most_arcs, most_capacity, least_precision, most_precision}
use Rattle.tables.specs.Tables.{Under, NoneAbove, weight_of, longer}

-- "capacity 1 to 1,000" (document 01, "The floor and its flow")
pub record Capacities (capacities : List ℕ) : Type 0 where
  pub least : (e : ℕ) → e < length capacities → 1 ≤ get_or capacities e 0
  pub most : NoneAbove most_capacity capacities

-- A length for each resource, to be set to its start.
pub record Startable (capacities lengths : List ℕ) : Type 0 where
  pub same : length lengths ≡ length capacities
  pub arcs : length capacities ≤ most_arcs
  pub sizes : Capacities capacities

-- Growth of what a path uses, at precision q by the draw g, no more than the capacities of it. Nothing is used twice, so that each length is below
-- the mark, document 01's 2^40, when it grows.
pub record Growing (lengths capacities : List ℕ) (q g : ℕ) (path : List ℕ) : Type 0 where
  pub same : length lengths ≡ length capacities
  pub coarsest : least_precision ≤ q
  pub finest : q ≤ most_precision
  pub places : Under (length capacities) path
  pub once : (e : ℕ) → times e path ≤ 1
  pub drawn : (j : ℕ) → j < length path → g ≤ get_or capacities (get_or path j 0) 0
  pub few : length path ≤ 2 * most_nodes
  pub arcs : length capacities ≤ most_arcs
  pub sizes : Capacities capacities
  pub short : Under (2 ^ 40) lengths

-- Grown lengths, to be halved if one is at the mark.
pub record Settling (capacities lengths : List ℕ) : Type 0 where
  pub same : length lengths ≡ length capacities
  pub arcs : length capacities ≤ most_arcs
  pub sizes : NoneAbove most_capacity capacities
  pub grown : Under (2 ^ 41) lengths

-- Growth along a path, and halving where a length comes to the mark by it. D of the lengths is at hand.
pub record Lengthening (lengths capacities : List ℕ) (q g : ℕ) (path : List ℕ) (d : ℕ) : Type 0 where
  pub growing : Growing lengths capacities q g path
  pub grown : Settling capacities (longer capacities q g path lengths)
  pub weight : d ≡ weight_of capacities lengths
