-- What holds of the entries for distances while a search goes on.
use Rattle.std.specs.Prelude.{◌≡◌, List, ℕ, ◌≤◌, ◌<◌, get_or}
use Rattle.std.proofs.Math.Option.{some}
use Rattle.network.specs.Ends.{Node}
use Rattle.network.specs.Network.{Network}
use Rattle.network.specs.Path.{leads}
use Rattle.paths.specs.Distances.{over}
use Rattle.paths.specs.Graph.{Capped}

-- Arc e leads from v to some node, and the way over it is no farther than v's entry.
pub record Over (net : Network) (l d : List ℕ) (v e : ℕ) : Type 0 where
  pub to : ℕ
  pub leads-to : leads net v e ≡ some to
  pub long : over net l d e to ≤ get_or d v 0

-- The entry of t is 0, none is above the cap, and each other node's below the cap is no less than the way over some arc.
pub record Labels (net : Network) (l d : List ℕ) (t far : ℕ) : Type 0 where
  pub sink : get_or d t 0 ≡ 0
  pub capped : Capped net d far
  pub way : (v : ℕ) → Node net v → (v ≡ t → ⊥) → get_or d v 0 < far → (e : ℕ) × Over net l d v e
