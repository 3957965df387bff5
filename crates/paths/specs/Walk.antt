-- The greedy walk over tight arcs, by a table of distances or by one that is only feasible.
use Rattle.std.specs.Prelude.{◌≡◌, List, [], ◌∷◌, ℕ, ◌<◌, get_or}
use Rattle.network.specs.Network.{Network}
use Rattle.paths.specs.Distances.{Way}

-- From t nothing; from any other node the lowest-numbered arc whose way is as far as the node's entry, then the walk from where it leads.
pub data Walk (net : Network) (l d : List ℕ) (t : ℕ) : ℕ → List ℕ → Type 0 where
  stop : Walk net l d t t []
  step :
      {v e : ℕ} {p : List ℕ} → (v ≡ t → ⊥) → (way : Way net l d v (get_or d v 0) e) → ((j : ℕ) → j < e → Way net l d v (get_or d v 0) j → ⊥) →
      Walk net l d t way.to p → Walk net l d t v (e ∷ p)
