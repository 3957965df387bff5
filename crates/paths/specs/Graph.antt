-- What a search asks of the tables that it is lent, and what it leaves in one.
use Rattle.std.specs.Prelude.{◌≡◌, List, ℕ, ◌≤◌, ◌<◌, length, get_or}
use Rattle.network.specs.Ends.{Node, Ends}
use Rattle.network.specs.Network.{Network}
use Rattle.network.specs.Onward.{onward}
use Rattle.network.specs.Path.{Path}
use Rattle.network.specs.Resources.{resources}
use Rattle.paths.specs.Distances.{Distances}
use Rattle.paths.specs.Far.{Bounded}
use Rattle.paths.specs.Key.{length_of}

-- The ends are nodes, each resource has a length, a small one, and a table of the given size has room for each node.
pub record Fit (net : Network) (l : List ℕ) (size : ℕ) : Type 0 where
  pub ends : Ends net
  pub lengths : length l ≡ resources net
  pub small : Bounded net l
  pub room : net.nodes < size

-- No node's entry of d is above the cap.
abbrev pub Capped : Network → List ℕ → ℕ → Type 0
Capped net d far = (v : ℕ) → v ≤ net.nodes → get_or d v 0 ≤ far

-- d has the distances to t, none above the cap, and below it each has the length of some path.
pub record Table (net : Network) (l d : List ℕ) (t far : ℕ) : Type 0 where
  pub distances : Distances net l d t far
  pub capped : Capped net d far
  pub some-path : (v : ℕ) → Node net v → get_or d v 0 < far → (p : List ℕ) × Path net v t p × (onward net l v p ≡ length_of (get_or d v 0))
