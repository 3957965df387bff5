-- The search for the next arc of a walk.
use Rattle.std.specs.Prelude.{◌≡◌, List, ℕ, Option, MatchOption, ◌+◌, ◌<◌, length, get_or}
use Rattle.std.proofs.Math.Option.{some}
use Rattle.network.specs.Network.{Network}
use Rattle.network.specs.Path.{leads}
use Rattle.paths.specs.Distances.{via, over, Way}
use Rattle.index.specs.Index.{ends_from, places_from, arc_at, end_at}
use Rattle.paths.specs.Relax.{Crossing}
use Rattle.paths.specs.Through.{through}

-- How far the way over the arc at place p is, as it is read.
abbrev pub over_at : List ℕ → List ℕ → List ℕ → ℕ → ℕ
over_at out l d p = via l d (through out l (end_at out p)) (arc_at out p) (end_at out p)

-- There is an arc at place p, the node where it leads has a number there, and it can be crossed.
pub record Offered (out l d : List ℕ) (p : ℕ) : Type 0 where
  pub place : ends_from + p < length out
  pub node : places_from + end_at out p < length out
  pub crossing : Crossing l d (through out l (end_at out p)) (arc_at out p) (end_at out p)

-- Place r has the lowest-numbered arc from v that is tight: its way is as far as v's entry.
pub record Tight (net : Network) (out l d : List ℕ) (v r : ℕ) : Type 0 where
  pub place : ends_from + r < length out
  pub leads-to : leads net v (arc_at out r) ≡ some (end_at out r)
  pub long : over net l d (arc_at out r) (end_at out r) ≡ get_or d v 0
  pub none-lower : (j : ℕ) → j < arc_at out r → Way net l d v (get_or d v 0) j → ⊥

-- Such a place, or none, where no arc from v is tight.
abbrev pub Sought : Network → List ℕ → List ℕ → List ℕ → ℕ → Option ℕ → Type 0
Sought net out l d v r = MatchOption r ((e : ℕ) → Way net l d v (get_or d v 0) e → ⊥) (Tight net out l d v)
