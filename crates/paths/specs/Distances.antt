-- Distances to a node t, below a cap: what a search must leave in its table. A distance is the least key of a path; the node where the path begins does not
-- count in it.
use Rattle.std.specs.Prelude.{◌≡◌, List, ℕ, ◌+◌, ◌≤◌, ◌<◌, get_or}
use Rattle.std.proofs.Math.Option.{some}
use Rattle.network.specs.Ends.{Node}
use Rattle.network.specs.Network.{Network}
use Rattle.network.specs.Path.{leads}
use Rattle.network.specs.Onward.{node_length}
use Rattle.paths.specs.Key.{arc_key}

-- How far the way over arc e to node w is, where x is the length of w: what the arc and w add, and the distance of w.
abbrev pub via : List ℕ → List ℕ → ℕ → ℕ → ℕ → ℕ
via l d x e w = arc_key l x e + get_or d w 0

-- The same of a network.
abbrev pub over : Network → List ℕ → List ℕ → ℕ → ℕ → ℕ
over net l d e w = via l d (node_length net l w) e w

-- Arc e leads from v to some node, and the way over it is x far.
pub record Way (net : Network) (l d : List ℕ) (v x e : ℕ) : Type 0 where
  pub to : ℕ
  pub leads-to : leads net v e ≡ some to
  pub long : over net l d e to ≡ x

-- d is feasible for t by the lengths l, which may be 0: that of t is 0, and no arc could shorten one. So no path to t has a smaller key than the entry of
-- its start. Lengths that grow leave it so, and all zeros are.
pub record Feasible (net : Network) (l d : List ℕ) (t : ℕ) : Type 0 where
  pub sink : get_or d t 0 ≡ 0
  pub arcs : (u e w : ℕ) → leads net u e ≡ some w → get_or d u 0 ≤ over net l d e w

-- d has the distances to t: besides, each below the cap is that of the way over some arc.
pub record Distances (net : Network) (l d : List ℕ) (t far : ℕ) : Type 0 where
  pub feasible : Feasible net l d t
  pub tight : (v : ℕ) → Node net v → (v ≡ t → ⊥) → get_or d v 0 < far → (e : ℕ) × Way net l d v (get_or d v 0) e
