-- What the steps of a call ask and leave: its sizes have passed, and its pairs and limits are put beside the copied arcs.
use Rattle.std.specs.Prelude.{◌≡◌, List, ℕ, zero, suc, min, ◌+◌, ◌*◌, ◌/◌, ◌≤◌, ◌<◌, ℤ, length, take}
use Rattle.bounds.specs.Bounds.{most_nodes, most_arcs, most_commodities}
use Rattle.network.specs.Given.{given}
use Rattle.network.specs.Network.{Network}
use Rattle.network.specs.Sound.{Counts}
use Rattle.network.specs.Verdict.{verdict, item_conditions}
use Rattle.network.specs.Refusal.{Accepted}
use Rattle.packed.specs.Packed.{part, tails_from, heads_from, capacities_from, marks_from, limits_from, Packed, Lent}
use Rattle.packed.specs.declared.Shape.{Shape}
use Rattle.records.specs.Records.{sources_in, sinks_in}

-- How many limits are read: as many as there are nodes, or fewer where fewer are given.
abbrev pub limits_read : ℕ → List ℕ → ℕ
limits_read n limits = min n (length limits)

-- How many resources m arcs and these limits are.
abbrev pub resources_of : ℕ → ℕ → List ℕ → ℕ
resources_of n m limits = m + given limits (limits_read n limits)

-- The shape of a call with m arcs and this many numbers in the pairs.
abbrev pub shape_of : ℕ → ℕ → ℕ → List ℕ → Shape
shape_of n m pairs limits =
    record { nodes = n; arcs = m; commodities = pairs / 2; limits = limits_read n limits; resources = resources_of n m limits }

-- The two tables have room for the outcome of k commodities on m arcs with r resources.
pub record Roomy (k m r : ℕ) (flow : List ℤ) (lengths : List ℕ) : Type 0 where
  pub for-flow : k * m ≤ length flow
  pub for-lengths : r ≤ length lengths

-- The sizes of a call with m arcs are within their bounds.
pub record SizesPassed (n q m : ℕ) (pairs limits : List ℕ) (flow : List ℤ) (lengths : List ℕ) : Type 0 where
  pub counts : Counts n m (resources_of n m limits) (length pairs / 2) q
  pub room : Roomy (length pairs / 2) m (resources_of n m limits) flow lengths

-- The network whose m arcs stand in their columns, with the commodities of the pairs and these limits.
abbrev pub network_copied : ℕ → ℕ → List ℕ → List ℕ → List ℕ → Network
network_copied n m net pairs limits =
    record {
      nodes = n;
      tails = part tails_from m net;
      heads = part heads_from m net;
      capacities = part capacities_from m net;
      marks = part marks_from m net;
      limits = limits;
      sources = sources_in pairs;
      sinks = sinks_in pairs;
    }

-- The sources of the pairs, or their sinks.
unfoldable pub half_of : ℕ → List ℕ → List ℕ
half_of zero pairs = sources_in pairs
half_of (suc which) pairs = sinks_in pairs

-- A place for a number of each pair, the first or the second.
pub record Halving (pairs : List ℕ) (which : ℕ) (to : List ℕ) : Type 0 where
  pub each : length to ≡ length pairs / 2
  pub two : which < 2

-- A column with a place for each pair.
pub record Pairing (s : Shape) (pairs net : List ℕ) : Type 0 where
  pub packed : Packed s net
  pub each : s.commodities ≡ length pairs / 2

-- A column with a place for each limit that is read, and the limits in it.
pub record Limiting (s : Shape) (limits net : List ℕ) : Type 0 where
  pub packed : Packed s net
  pub enough : s.limits ≤ length limits

pub record Limited (s : Shape) (limits old new : List ℕ) : Type 0 where
  pub holds : part limits_from s.limits new ≡ take s.limits limits
  pub kept : (b i : ℕ) → b + i ≤ limits_from → part b i new ≡ part b i old

-- Both.
pub record Completing (s : Shape) (pairs limits net : List ℕ) : Type 0 where
  pub pairing : Pairing s pairs net
  pub enough : s.limits ≤ length limits

-- Columns with a place for each arc, for each pair and for each limit.
pub record Checking (n m : ℕ) (pairs : List ℕ) : Type 0 where
  pub few-nodes : n ≤ most_nodes
  pub few-arcs : m ≤ most_arcs
  pub few-pairs : length pairs / 2 ≤ most_commodities

-- An accepted network, and room for its outcome.
pub record Delivering (s : Shape) (q : ℕ) (net : List ℕ) (flow : List ℤ) (lengths : List ℕ) : Type 0 where
  pub lent : Lent s q net
  pub room : Roomy s.commodities s.arcs s.resources flow lengths

-- A call that has passed.
pub record Passed (n q m : ℕ) (net pairs limits : List ℕ) (flow : List ℤ) (lengths : List ℕ) : Type 0 where
  pub sizes : SizesPassed n q m pairs limits flow lengths
  pub items : verdict (item_conditions (network_copied n m net pairs (take n limits))) ≡ Accepted
