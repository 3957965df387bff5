-- A walk written into a table of arcs: what it asks, and what it leaves. Request C-16.
use Rattle.std.specs.Prelude.{◌≡◌, List, ℕ, Option, MatchOption, ◌≤◌, ◌<◌, length, take}
use Rattle.network.specs.Ends.{Node}
use Rattle.network.specs.Network.{Network}
use Rattle.network.specs.Onward.{onward}
use Rattle.network.specs.Path.{Path}
use Rattle.paths.specs.Distances.{Feasible}
use Rattle.paths.specs.Far.{far}
use Rattle.paths.specs.Graph.{Fit, Capped}
use Rattle.index.specs.Index.{Out}
use Rattle.paths.specs.Walk.{Walk}

-- d is feasible for t; s is another node; out has the arcs from each node; and the table of arcs has a place for each node.
pub record Walkable (net : Network) (out l d : List ℕ) (s t size : ℕ) : Type 0 where
  pub fit : Fit net l (length d)
  pub feasible : Feasible net l d t
  pub capped : Capped net d far
  pub index : Out net out
  pub source : Node net s
  pub apart : s ≡ t → ⊥
  pub places : net.nodes ≤ size

-- The first r entries are the greedy walk from s to t: a path of r arcs, and no path that is as
-- short has fewer.
pub record Arrived (net : Network) (l d : List ℕ) (s t : ℕ) (path : List ℕ) (r : ℕ) : Type 0 where
  pub walk : Walk net l d t s (take r path)
  pub leads-to : Path net s t (take r path)
  pub arcs : length (take r path) ≡ r
  pub fewest : (p : List ℕ) → Path net s t p → onward net l s p ≡ onward net l s (take r path) → r ≤ length p
  pub few : r < net.nodes

-- The walk has arrived, or there is none: it is stuck at a node without a tight arc.
abbrev pub Walked : Network → List ℕ → List ℕ → ℕ → ℕ → List ℕ → Option ℕ → Type 0
Walked net l d s t path r = MatchOption r ((p : List ℕ) → Walk net l d t s p → ⊥) (Arrived net l d s t path)
