-- What reading a call's network asks, and what its parts leave.
use Rattle.std.specs.Prelude.{◌≡◌, List, ℕ, min, ◌+◌, ◌≤◌, length}
use Rattle.network.specs.Resources.{resources}
use Rattle.numbers.specs.Numbers.{count, items, column}
use Rattle.packed.specs.Packed.{part, tails_from, heads_from, capacities_from, sources_from, sinks_from, marks_from, limits_from, Packed}
use Rattle.packed.specs.declared.Shape.{Shape}
use Rattle.decode.specs.Decode.{network_in}

-- The shape of the network in a call's byte slices.
pub record Shaped (n : ℕ) (belts pairs limits : List ℕ) (s : Shape) : Type 0 where
  pub nodes : s.nodes ≡ n
  pub arcs : s.arcs ≡ items 4 belts
  pub commodities : s.commodities ≡ items 2 pairs
  pub given : s.limits ≡ min n (count limits)
  pub counted : s.resources ≡ resources (network_in n belts pairs limits)

-- The shape counts the complete items of the pairs, and the slice has room for it.
pub record OfPairs (s : Shape) (pairs net : List ℕ) : Type 0 where
  pub packed : Packed s net
  pub commodities : s.commodities ≡ items 2 pairs

-- Their columns stand at their places.
pub record PairsRead (s : Shape) (pairs old new : List ℕ) : Type 0 where
  pub size : length new ≡ length old
  pub sources : part sources_from s.commodities new ≡ column pairs 2 0 s.commodities
  pub sinks : part sinks_from s.commodities new ≡ column pairs 2 1 s.commodities

-- The same of the belts, whose columns leave those of the pairs as they are.
pub record OfBelts (s : Shape) (belts net : List ℕ) : Type 0 where
  pub packed : Packed s net
  pub arcs : s.arcs ≡ items 4 belts

pub record BeltsRead (s : Shape) (belts old new : List ℕ) : Type 0 where
  pub size : length new ≡ length old
  pub tails : part tails_from s.arcs new ≡ column belts 4 0 s.arcs
  pub heads : part heads_from s.arcs new ≡ column belts 4 1 s.arcs
  pub capacities : part capacities_from s.arcs new ≡ column belts 4 2 s.arcs
  pub marks : part marks_from s.arcs new ≡ column belts 4 3 s.arcs
  pub sources : part sources_from s.commodities new ≡ part sources_from s.commodities old
  pub sinks : part sinks_from s.commodities new ≡ part sinks_from s.commodities old

-- The limits, whose column stands behind all others and leaves them as they are.
pub record OfLimits (s : Shape) (limits net : List ℕ) : Type 0 where
  pub packed : Packed s net
  pub given : s.limits ≤ count limits

pub record LimitsRead (s : Shape) (limits old new : List ℕ) : Type 0 where
  pub holds : part limits_from s.limits new ≡ column limits 1 0 s.limits
  pub kept : (b i : ℕ) → b + i ≤ limits_from → part b i new ≡ part b i old

-- All of them.
pub record Decoding (s : Shape) (belts pairs limits net : List ℕ) : Type 0 where
  pub packed : Packed s net
  pub arcs : s.arcs ≡ items 4 belts
  pub commodities : s.commodities ≡ items 2 pairs
  pub given : s.limits ≡ min s.nodes (count limits)
