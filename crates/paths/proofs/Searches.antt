-- A search on its way: a node is taken out, its arcs are passed, and the list comes to its end.
-- Assumes nothing.
use mathlib.Core.Path.{◌≡◌, sym, ◌∙◌}
use mathlib.Core.List.{List}
use Prim.Native.Nat.{ℕ, ◌+◌, ◌-◌, ◌≤◌}
use native.Mathlib.Omega.{arith}
use Rattle.bounds.specs.Bounds.{most_nodes}
use Rattle.network.specs.Network.{Network}
use Rattle.paths.specs.Far.{far}
use Rattle.paths.specs.Graph.{Table}
use Rattle.index.specs.Index.{begins, Into}
use Rattle.paths.specs.Worklist.{TakenOut}
use Rattle.paths.specs.Searching.{Searching, Any, Passed}
use Rattle.paths.proofs.Labels.{labels-rest}
use Rattle.network.proofs.Leads.{leads-into}
use Rattle.paths.proofs.Worklists.{worklist-none}
use Rattle.paths.proofs.Telling.{distance-length}

module _ {net : Network} {l : List ℕ} {t : ℕ} {d listed : List ℕ} {size : ℕ} where
  -- With no node on the list the labels are the distances.
  pub searching-end : net.nodes ≤ most_nodes → Searching net l t Any d listed size → size ≤ 0 → Table net l d t far
  searching-end few S none =
      let D =
      labels-rest S.labels (λ u e w h. S.feasible u e w h tt (worklist-none S.worklist none w (leads-into net u e w h S.fit.ends))) in
      record { distances = D; capped = S.labels.capped; some-path = distance-length S.fit.ends few D }

  -- A node is taken out: the arcs into it are to be relaxed.
  pub searching-out :
      {v : ℕ} {listed' : List ℕ} (into : List ℕ) → Searching net l t Any d listed size → TakenOut net.nodes listed size v listed' →
      Searching net l t (Passed into v (begins into v)) d listed' (size - 1)
  searching-out {v} into S T =
      record {
        fit = S.fit;
        labels = S.labels;
        ordered = S.ordered;
        worklist = T.worklist;
        feasible = λ u e w h passed off.
            let ne : w ≡ v → ⊥ = λ q. let r = passed q in omega (arith, r.1, r.2.from) in
            S.feasible u e w h tt (sym (T.others w ne) ∙ off);
      }

  -- With all places of v passed, none is left out.
  pub searching-all :
      {into : List ℕ} {v p : ℕ} → Searching net l t (Passed into v p) d listed size → Into net into → v ≤ net.nodes → begins into (v + 1) ≤ p →
      Searching net l t Any d listed size
  searching-all {into} {v} {p} S I b past =
      record {
        fit = S.fit;
        labels = S.labels;
        ordered = S.ordered;
        worklist = S.worklist;
        feasible = λ u e w h any. S.feasible u e w h (λ q. let r = I.arcs.whole v e u b (rw q at h) in (r.0, omega (arith, r.1.below), r.1));
      }
