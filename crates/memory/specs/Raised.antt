-- Bounds raised by a feasible table: what that asks, and what it leaves.
use Rattle.std.specs.Prelude.{◌≡◌, ◌⊎◌, List, ℕ, ◌+◌, ◌-◌, ◌^◌, ◌≤◌, ◌<◌, length, get_or, set, drop}
use Rattle.bounds.specs.Bounds.{most_nodes, most_commodities}
use Rattle.network.specs.Network.{Network, source, sink}
use Rattle.network.specs.Onward.{node_length}
use Rattle.packed.specs.Packed.{net_in, Packed}
use Rattle.packed.specs.declared.Shape.{Shape}
use Rattle.index.specs.Index.{places_from, index_numbers}
use Rattle.paths.specs.Key.{length_of}
use Rattle.paths.specs.Through.{through}
use Rattle.memory.specs.Least.{Least}
use Rattle.memory.specs.Memory.{bounds_in, distances_in, memory_numbers}

-- What the table d tells of the paths from v to w: none is shorter than the length in what the entry of v is above that of w, with v's own length, which is
-- x of it.
abbrev pub told_by : (ℕ → ℕ) → List ℕ → ℕ → ℕ → ℕ
told_by x d v w = length_of (get_or d v 0 - get_or d w 0) + x v

-- By the table of its own sink: the length in the distance of the source of commodity i, with the source's own.
abbrev pub length_by : Network → List ℕ → List ℕ → ℕ → ℕ
length_by net l d i = length_of (get_or d (source net i) 0) + node_length net l (source net i)

-- Both nodes have an entry, and the first a number in the index and a small length.
pub record Telling (ix l d : List ℕ) (v w : ℕ) : Type 0 where
  pub from : v < length d
  pub to : w < length d
  pub place : places_from + v < length ix
  pub small : through ix l v < 2 ^ 40

-- r is the greater of the two numbers.
pub record Greater (a b r : ℕ) : Type 0 where
  pub first : a ≤ r
  pub second : b ≤ r
  pub one : (r ≡ a) ⊎ (r ≡ b)

-- Of the first k commodities each bound is the greater of what it was and what d tells; no other has changed.
pub record Raised (x : ℕ → ℕ) (sources sinks d old new : List ℕ) (k : ℕ) : Type 0 where
  pub size : length new ≡ length old
  pub each : (i : ℕ) → i < k → Greater (get_or old i 0) (told_by x d (get_or sources i 0) (get_or sinks i 0)) (get_or new i 0)
  pub rest : (i : ℕ) → k ≤ i → get_or new i 0 ≡ get_or old i 0

-- Raising by the table of t: it is a node, each commodity has its ends among the nodes, and the length of its source is small.
pub record Raising (s : Shape) (net ix l : List ℕ) (t : ℕ) (memory : List ℕ) : Type 0 where
  pub packed : Packed s net
  pub node : t ≤ most_nodes
  pub sources : (i : ℕ) → i < s.commodities → source (net_in s net) i ≤ most_nodes
  pub sinks : (i : ℕ) → i < s.commodities → sink (net_in s net) i ≤ most_nodes
  pub small : (i : ℕ) → i < s.commodities → through ix l (source (net_in s net) i) < 2 ^ 40
  pub numbers : index_numbers ≤ length ix
  pub places : memory_numbers ≤ length memory

-- The bound of commodity i has been raised to r.
pub record RaisedAt (s : Shape) (net ix l : List ℕ) (t i : ℕ) (old new : List ℕ) (r : ℕ) : Type 0 where
  pub greater : Greater (get_or old i 0) (told_by (through ix l) (distances_in t old) (source (net_in s net) i) (sink (net_in s net) i)) r
  pub stored : new ≡ set old i r

-- Those of the first k have, and what stands behind the bounds is as it was.
pub record RaisedIn (s : Shape) (net ix l : List ℕ) (t : ℕ) (old new : List ℕ) (k : ℕ) : Type 0 where
  pub bounds : Raised (through ix l) (net_in s net).sources (net_in s net).sinks (distances_in t old) (bounds_in s old) (bounds_in s new) k
  pub behind : drop most_commodities new ≡ drop most_commodities old
  pub numbers : length new ≡ length old

-- All have, and r is the lowest-numbered commodity of least bound.
pub record AllRaised (s : Shape) (net ix l : List ℕ) (t : ℕ) (old new : List ℕ) (r : ℕ) : Type 0 where
  pub raised : RaisedIn s net ix l t old new s.commodities
  pub least : Least (bounds_in s new) s.commodities r
