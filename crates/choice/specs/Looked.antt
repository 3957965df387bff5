-- A search for the sink of one commodity, and what it tells of all; and the walk of one by its page.
use Rattle.std.specs.Prelude.{◌≡◌, List, ℕ, Option, MatchOption, ◌≤◌, ◌<◌, get_or}
use Rattle.network.specs.Network.{Network, commodities, source, sink}
use Rattle.packed.specs.declared.Shape.{Shape}
use Rattle.paths.specs.Far.{far}
use Rattle.paths.specs.Graph.{Table}
use Rattle.paths.specs.Walk.{Walk}
use Rattle.memory.specs.Memory.{bounds_in, distances_in, Known}
use Rattle.memory.specs.Raised.{length_by}
use Rattle.choice.specs.Closest.{Closest}

-- The page of t has the distances, the bounds of the commodities with that sink are the lengths in them, no bound has fallen, and r is the lowest-numbered
-- commodity of least bound now.
pub record Looked (s : Shape) (net : Network) (l : List ℕ) (t : ℕ) (old new : List ℕ) (r : ℕ) : Type 0 where
  pub known : Known s net l new r
  pub table : Table net l (distances_in t new) t far
  pub shared : (i : ℕ) → i < commodities net → sink net i ≡ t → get_or (bounds_in s new) i 0 ≡ length_by net l (distances_in t new) i
  pub rise : (i : ℕ) → i < commodities net → get_or (bounds_in s old) i 0 ≤ get_or (bounds_in s new) i 0

-- Where the bound of commodity i is the length by the table d, there is no walk by that.
abbrev pub Stuck : Network → List ℕ → List ℕ → List ℕ → ℕ → Type 0
Stuck net l bounds d i = get_or bounds i 0 ≡ length_by net l d i → (p : List ℕ) → Walk net l d (sink net i) (source net i) p → ⊥

-- The walk of commodity i by the table d has arrived, with a length that is the bound, or there is none with that length.
abbrev pub Followed : Network → List ℕ → List ℕ → List ℕ → ℕ → List ℕ → Option ℕ → Type 0
Followed net l bounds d i path r = MatchOption r (Stuck net l bounds d i) (Closest net l bounds d i path)
