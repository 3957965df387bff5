-- A search for the distances to t on its way.
use Rattle.std.specs.Prelude.{◌≡◌, List, ℕ, suc, ◌+◌, ◌≤◌, ◌<◌, length, get_or}
use Rattle.std.proofs.Math.Option.{some}
use Rattle.arith.specs.Sum.{sum}
use Rattle.network.specs.Network.{Network}
use Rattle.network.specs.Path.{leads}
use Rattle.paths.specs.Distances.{over}
use Rattle.paths.specs.Far.{far}
use Rattle.paths.specs.Graph.{Fit}
use Rattle.index.specs.Index.{Place}
use Rattle.paths.specs.Labels.{Labels}
use Rattle.paths.specs.Worklist.{Worklist}
use Rattle.paths.specs.Order.{Ordered}

-- The entries of d are labels, and none can be shortened by an arc of those that P tells into a node that is not on the list. Behind them is the order.
pub record Searching (net : Network) (l : List ℕ) (t : ℕ) (P : ℕ → ℕ → ℕ → Type 0) (d listed : List ℕ) (size : ℕ) : Type 0 where
  pub fit : Fit net l (length d)
  pub labels : Labels net l d t far
  pub ordered : Ordered net d
  pub worklist : Worklist net.nodes listed size
  pub feasible : (u e w : ℕ) → leads net u e ≡ some w → P u e w → get_or listed w 0 ≡ 0 → get_or d u 0 ≤ over net l d e w

-- All arcs.
abbrev pub Any : ℕ → ℕ → ℕ → Type 0
Any u e w = Unit {0}

-- All but those into v whose place in the index is p or a later one.
abbrev pub Passed : List ℕ → ℕ → ℕ → ℕ → ℕ → ℕ → Type 0
Passed into v p u e w = w ≡ v → (q : ℕ) × (q < p) × Place into v q e u

-- The sum of the entries of all nodes, and of place 0.
unfoldable pub total : Network → List ℕ → ℕ
total net d = sum (suc net.nodes) (λ v. get_or d v 0)

-- The search has gone on, from the entries old and a list of size nodes: for each node that came onto the list an entry fell.
pub record Spread (net : Network) (l : List ℕ) (t : ℕ) (P : ℕ → ℕ → ℕ → Type 0) (old : List ℕ) (size : ℕ)
    (d listed : List ℕ) (r : ℕ) : Type 0 where
  pub searching : Searching net l t P d listed r
  pub weight : total net d + r ≤ total net old + size

-- So it has by an arc into v, whose own entry stays.
pub record Reached (net : Network) (l : List ℕ) (t v : ℕ) (P : ℕ → ℕ → ℕ → Type 0) (old : List ℕ) (size : ℕ) (d listed : List ℕ) (r : ℕ) : Type 0 where
  pub spread : Spread net l t P old size d listed r
  pub head : get_or d v 0 ≡ get_or old v 0
