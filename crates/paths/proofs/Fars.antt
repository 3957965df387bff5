-- How a search starts: every node's entry is far but the sink's, so the entries are labels, and only the arcs into the sink can shorten one.
-- Assumes nothing.
use mathlib.Core.Path.{◌≡◌, ap, ◌∙◌}
use mathlib.Core.Logic.{⊎_elim}
use mathlib.Core.List.{List, ◌++◌}
use Prim.Native.Nat.{ℕ, ◌+◌, ◌≤◌}
use native.Mathlib.Omega.{arith}
use lib.ListN.{length, get_or, set, drop, replicate}
use lib.Seq.{get_or-set_same, get_or-set_other}
use Rattle.bounds.specs.Bounds.{most_nodes}
use Rattle.network.specs.Network.{Network}
use Rattle.paths.specs.Far.{far}
use Rattle.paths.specs.Graph.{Fit}
use Rattle.paths.specs.Labels.{Labels}
use Rattle.paths.specs.Worklist.{Enlisted}
use Rattle.paths.specs.Order.{order_from, Ordered}
use Rattle.paths.specs.Searching.{Searching, Any}
use Rattle.paths.proofs.Filled.{filled_at, filled-room, filled-behind}
use Rattle.network.proofs.Leads.{leads-from, leads-into}
use Rattle.paths.proofs.Orders.{ordered_same, ordered-set}
use Rattle.paths.proofs.Relaxing.{set-entry}

module _ (net : Network) (l old : List ℕ) (t : ℕ) (b : t ≤ net.nodes) where
  -- what comes after the nodes, and far at every node
  abbrev rest : List ℕ
  rest = drop (net.nodes + 1) old

  abbrev fars : List ℕ
  fars = replicate (net.nodes + 1) far ++ rest

  fars-at : (v : ℕ) → v ≤ net.nodes → get_or fars v 0 ≡ far
  fars-at = filled_at net.nodes far rest

  start-far : (v : ℕ) → v ≤ net.nodes → (v ≡ t → ⊥) → get_or (set fars t 0) v 0 ≡ far
  start-far v c ne = get_or-set_other fars t v 0 0 ne ∙ fars-at v c

  labels-start : Labels net l (set fars t 0) t far
  labels-start =
      record {
        sink = get_or-set_same fars t 0 0 (omega (arith, filled-room net.nodes far rest));
        capped = λ v c.
            ⊎_elim
            (λ (h : get_or (set fars t 0) v 0 ≡ get_or fars v 0). omega (arith, fars-at v c))
            (λ (h : (v ≡ t) × (get_or (set fars t 0) v 0 ≡ 0)). omega arith)
            (set-entry fars t 0 v);
        way = λ v node apart near. absurd (omega (arith, near, start-far v node.1 apart));
      }

  -- The order is behind them.
  ordered-start : net.nodes ≤ most_nodes → Ordered net old → Ordered net (set fars t 0)
  ordered-start few O =
      ordered-set {old = fars} (ordered_same O (λ p. filled-behind net.nodes far old (order_from + p) (omega arith))) few t 0 b

  -- With the sink on the list the search can go on.
  pub searching-start :
      {flags listed : List ℕ} {size r : ℕ} → net.nodes ≤ most_nodes → Ordered net old → Fit net l (length (set fars t 0)) →
      Enlisted net.nodes flags size t listed r → Searching net l t Any (set fars t 0) listed r
  searching-start {listed = listed} few O f E =
      record {
        fit = f;
        labels = labels-start;
        ordered = ordered-start few O;
        worklist = E.worklist;
        feasible = λ u e w h any off.
            let ne : w ≡ t → ⊥ = λ q. omega (arith, E.has, ap (λ k. get_or listed k 0) q) in
            omega (
              arith,
              start-far w (leads-into net u e w h f.ends).1 ne,
              labels-start.capped u (leads-from net u e w h f.ends).1,
            );
      }
