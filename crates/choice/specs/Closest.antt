-- Where the search among the commodities ends: with a walk that is as long as the least bound.
use Rattle.std.specs.Prelude.{◌≡◌, List, ℕ, Option, MatchOption, ◌≤◌, get_or}
use Rattle.network.specs.Network.{Network, source, sink}
use Rattle.packed.specs.declared.Shape.{Shape}
use Rattle.paths.specs.Distances.{Feasible}
use Rattle.paths.specs.Far.{far_length}
use Rattle.paths.specs.Walked.{Arrived}
use Rattle.memory.specs.Memory.{bounds_in, least_in, distances_in, Memory}
use Rattle.memory.specs.Raised.{length_by}

-- The walk of commodity i by the feasible table d has arrived, with r arcs, and its bound is the
-- length of that.
pub record Closest (net : Network) (l bounds d : List ℕ) (i : ℕ) (path : List ℕ) (r : ℕ) : Type 0 where
  pub feasible : Feasible net l d (sink net i)
  pub arrived : Arrived net l d (source net i) (sink net i) path r
  pub own : get_or bounds i 0 ≡ length_by net l d i

-- The memory notes the commodity of least bound, and it has such a walk, or that bound is far. So no path of any commodity is shorter, and those of
-- lower-numbered ones are longer. Document 01, "One choice of route": alpha and the chosen pair.
pub record Nearest (s : Shape) (net : Network) (l memory path : List ℕ) (r : Option ℕ) : Type 0 where
  pub memory-of : Memory s net l memory
  pub closest :
      let i = least_in memory in
      MatchOption r (far_length ≤ get_or (bounds_in s memory) i 0) (Closest net l (bounds_in s memory) (distances_in (sink net i) memory) i path)
