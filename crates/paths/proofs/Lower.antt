-- By a feasible table no path has a smaller key than its start's entry is above its end's: the
-- entries along it telescope (docs/WORKING.md, "What a distance is").
-- Assumes nothing.
use mathlib.Core.Path.{ap}
use mathlib.Core.Option.{some-injective}
use mathlib.Core.List.{List, [], ◌∷◌}
use Prim.Native.Nat.{ℕ, ◌+◌, ◌≤◌}
use native.Mathlib.Omega.{arith}
use lib.ListN.{get_or}
use Rattle.network.specs.Network.{Network}
use Rattle.network.specs.Onward.{onward}
use Rattle.network.specs.Path.{follow, Path}
use Rattle.network.proofs.Leads.{leads-beyond}
use Rattle.network.proofs.Paths.{path-step}
use Rattle.paths.specs.Distances.{Feasible}
use Rattle.paths.specs.Key.{path_key}

module _ {net : Network} {l d : List ℕ} {t : ℕ} (F : Feasible net l d t) where
  pub telescopes : (v u : ℕ) (p : List ℕ) → Path net v u p → get_or d v 0 ≤ path_key net l v p + get_or d u 0
  unfolding follow onward
  telescopes v u [] h = omega (arith, ap (λ w. get_or d w 0) (some-injective v u h))
  telescopes v u (e ∷ p) h =
      let s = path-step net v u e p h in
      rw (leads-beyond net v e s.0 s.1) (omega (arith, F.arcs v e s.0 s.1, telescopes s.0 u p s.2))
