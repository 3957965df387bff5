-- A walk, to t or to any other node, visits no node twice, so it has fewer arcs than there are
-- nodes (docs/WORKING.md, "What a distance is").
-- Assumes nothing.
use mathlib.Core.Logic.{⊎_elim}
use mathlib.Core.List.{List, ◌++◌}
use Prim.Native.Nat.{ℕ, ◌<◌}
use native.Mathlib.Omega.{arith}
use lib.ListN.{length}
use Rattle.arith.specs.Distinct.{Distinct}
use Rattle.network.specs.Ends.{Node, Ends}
use Rattle.network.specs.Network.{Network}
use Rattle.network.specs.Visited.{visited}
use Rattle.network.proofs.Cuts.{cut-path, cut-fewer, cut-onward}
use Rattle.network.proofs.Loops.{Loop, distinct-or-loop}
use Rattle.network.proofs.Nodes.{distinct-path-few}
use Rattle.paths.specs.Distances.{Feasible}
use Rattle.paths.specs.Walk.{Walk}
use Rattle.paths.proofs.Lower.{telescopes}
use Rattle.paths.proofs.Walks.{walk-path, walk-key}

module _ {net : Network} {l d : List ℕ} {t u v : ℕ} {p : List ℕ} where
  -- Cutting a loop out would give a path of fewer arcs that is no longer.
  pub walk-distinct : Feasible net l d t → Walk net l d u v p → Distinct (visited net v p)
  walk-distinct F w =
      ⊎_elim
      (λ (x : Distinct (visited net v p)). x)
      (λ (k : Loop net v u p). absurd (omega (
        arith,
        cut-fewer net v u p k,
        cut-onward net v u p k l,
        telescopes F v u (k.front ++ k.back) (cut-path net v u p k),
        walk-key w,
      )))
      (distinct-or-loop net v u p (walk-path w))

  pub walk-few : Ends net → Feasible net l d t → Node net v → Walk net l d u v p → length p < net.nodes
  walk-few ends F node w = distinct-path-few net ends v u p node (walk-path w) (walk-distinct F w)
