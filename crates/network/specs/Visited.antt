-- The nodes on a path.
use Rattle.std.proofs.Math.Option.{none, some}
use Rattle.std.specs.Prelude.{List, [], ◌∷◌, ℕ}
use Rattle.network.specs.Network.{Network}
use Rattle.network.specs.Path.{leads}

-- The nodes that a path from v visits, in order: v, and where each of its arcs leads.
unfoldable pub visited : Network → ℕ → List ℕ → List ℕ
visited net v [] = v ∷ []
visited net v (e ∷ p) = v ∷ elim (leads net v e) [ none ↦ [] | some w ↦ visited net w p ]
