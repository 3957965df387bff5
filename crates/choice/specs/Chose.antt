-- What the choice leaves. Document 01, "One choice of route", and requests C-16 and C-17.
use Rattle.std.specs.Prelude.{◌≡◌, List, ℕ, Option, MatchOption, ◌*◌, ◌≤◌, ◌<◌, take}
use Rattle.std.proofs.Math.Option.{none, some}
use Rattle.bounds.specs.Bounds.{most_nodes}
use Rattle.network.specs.Network.{Network, source}
use Rattle.network.specs.Path.{path_length}
use Rattle.network.specs.Resources.{uses}
use Rattle.packed.specs.declared.Shape.{Shape}
use Rattle.method.specs.Choice.{choice_of, choice}
use Rattle.method.specs.declared.Selected.{Selected}
use Rattle.memory.specs.Memory.{Memory}

-- The commodity and the first entries of the table are the choice, from 1 to 63 arcs; with the limited nodes behind them they are what it uses, and alpha is
-- the length of that.
pub record Picked (net : Network) (l : List ℕ) (r : Selected) (path : List ℕ) : Type 0 where
  pub chosen : choice net l ≡ some (choice_of r.commodity (take r.arcs path))
  pub used : take r.used path ≡ uses net (source net r.commodity) (take r.arcs path)
  pub alpha : path_length l (take r.used path) ≡ r.alpha
  pub some-arc : 1 ≤ r.arcs
  pub few-arcs : r.arcs < most_nodes
  pub some_more : r.arcs ≤ r.used
  pub few-used : r.used ≤ 2 * most_nodes

-- So it is with what is selected; where nothing is, no commodity is joined.
abbrev pub Chose : Network → List ℕ → Option Selected → List ℕ → Type 0
Chose net l r path = MatchOption r (choice net l ≡ none) (λ c. Picked net l c path)

-- And all that it leaves: the choice, and a memory that holds by the lengths as they are.
pub record Left (s : Shape) (net : Network) (l : List ℕ) (r : Option Selected) (path memory : List ℕ) : Type 0 where
  pub chose : Chose net l r path
  pub memory-of : Memory s net l memory
