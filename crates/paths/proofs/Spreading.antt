-- An arc of a search is relaxed: either nothing changes, or its start comes nearer and goes onto the list.
-- Assumes nothing.
use mathlib.Core.Path.{◌≡◌, refl, sym, ap, ◌∙◌}
use mathlib.Core.Bool.{Bool, true, false}
use mathlib.Core.Logic.{⊎_elim}
use mathlib.Core.List.{List}
use mathlib.Core.Option.{some}
use Prim.Native.Nat.{ℕ, ◌+◌, ◌≤◌, ◌<◌}
use native.Mathlib.Nat.{eq-or-lt_of_le}
use native.Mathlib.Omega.{arith}
use lib.Dec.{eqb}
use lib.ListN.{length, get_or}
use borrow.Author.Tests.{eqb-true, eqb-false}
use Rattle.bounds.specs.Bounds.{most_nodes}
use Rattle.network.specs.Network.{Network}
use Rattle.network.specs.Path.{leads}
use Rattle.network.specs.Onward.{node_length}
use Rattle.paths.specs.Distances.{via, over}
use Rattle.index.specs.Index.{arc_at, end_at}
use Rattle.paths.specs.Worklist.{Enlisted, Met}
use Rattle.paths.specs.Order.{Ordered}
use Rattle.paths.specs.Relax.{shortens, relaxed}
use Rattle.paths.specs.Searching.{Searching, Passed, Spread}
use Rattle.paths.proofs.Labels.{labels-relaxed}
use Rattle.network.proofs.Leads.{leads-from}
use Rattle.paths.proofs.Orders.{ordered-set}
use Rattle.paths.proofs.Relaxing.{Shortened, relaxed-cases, relaxed-size, relaxed-entry, relaxed-le, relaxed-same, relaxed-over, relaxed-falls}

module _ {net : Network} {into l : List ℕ} {t v a p u e : ℕ} {d listed : List ℕ} {size : ℕ}
    (S : Searching net l t (Passed into v p) d listed size) (own : a ≡ node_length net l v) (arc : arc_at into p ≡ e) (end : end_at into p ≡ u) (h : leads net u e ≡ some v) where
  start : u < length d
  start = omega (arith, leads-from net u e v h S.fit.ends, S.fit.room)

  -- An arc is relaxed: no arc can shorten that could not before, but one into a node whose entry has changed; and that node is on the list.
  feasible-relaxed :
      (flags : List ℕ) → ((x : ℕ) → get_or flags x 0 ≡ 0 → get_or listed x 0 ≡ 0) →
      ((x : ℕ) → get_or flags x 0 ≡ 0 → get_or (relaxed l d a u e v) x 0 ≡ get_or d x 0) →
      (x j y : ℕ) → leads net x j ≡ some y → Passed into v (p + 1) x j y → get_or flags y 0 ≡ 0 →
      get_or (relaxed l d a u e v) x 0 ≤ over net l (relaxed l d a u e v) j y
  feasible-relaxed flags still same x j y led passed off = by-test (eqb y v) refl
    where
      before : Passed into v p x j y → get_or (relaxed l d a u e v) x 0 ≤ over net l (relaxed l d a u e v) j y
      before was =
          omega (arith, relaxed-le l d a u e v x, same y off, S.feasible x j y led was (still y off))

      -- at the arc itself
      at-arc : y ≡ v → j ≡ e → x ≡ u → get_or (relaxed l d a u e v) x 0 ≤ over net l (relaxed l d a u e v) j y
      at-arc q b c =
          omega (
            arith,
            own,
            relaxed-over l d a u e v start,
            same y off,
            ap (λ i. get_or (relaxed l d a u e v) i 0) c,
            ap (λ i. get_or l i 0) b,
            ap (λ i. get_or d i 0) q,
            ap (node_length net l) q,
          )

      by-test : (b : Bool) → eqb y v ≡ b → get_or (relaxed l d a u e v) x 0 ≤ over net l (relaxed l d a u e v) j y
      by-test false q = before (λ r. absurd (eqb-false y v q r))
      by-test true q =
          let r = passed (eqb-true y v q) in
          ⊎_elim
          (λ (s : r.0 ≡ p). at-arc (eqb-true y v q) (sym r.2.arc ∙ (ap (arc_at into) s ∙ arc)) (sym r.2.end ∙ (ap (end_at into) s ∙ end)))
          (λ (b : r.0 < p). before (λ i. (r.0, b, r.2)))
          (eq-or-lt_of_le (omega (arith, r.1)))

  -- It does not shorten: all is as before.
  pub searching-still :
      {x : List ℕ} → shortens l d a u e v ≡ false → x ≡ relaxed l d a u e v → Spread net l t (Passed into v (p + 1)) d size x listed size
  searching-still same q =
      rw (q ∙ relaxed-same l d a u e v same)
      (record {
        searching =
            record {
              fit = S.fit;
              labels = S.labels;
              ordered = S.ordered;
              worklist = S.worklist;
              feasible =
                  rw (relaxed-same l d a u e v same) at
                  (feasible-relaxed listed (λ x q. q) (λ x q. ap (λ y. get_or y x 0) (relaxed-same l d a u e v same)));
            };
        weight = omega arith;
      })

  -- It does: its start is on the list.
  searching-spread :
      {x listed' : List ℕ} {r : ℕ} → net.nodes ≤ most_nodes → shortens l d a u e v ≡ true → x ≡ relaxed l d a u e v → Enlisted net.nodes listed size u listed' r →
      Spread net l t (Passed into v (p + 1)) d size x listed' r
  searching-spread {listed' = listed'} few shorter q E =
      rw q
      (record {
        searching =
            record {
              fit = rw (relaxed-size l d a u e v) S.fit;
              labels = labels-relaxed net l d a u e v own h S.labels;
              ordered =
                  relaxed-cases l d a u e v (Ordered net) (λ _. S.ordered)
                  (λ _. ordered-set S.ordered few u (via l d a e v) (leads-from net u e v h S.fit.ends).1);
              worklist = E.worklist;
              feasible = feasible-relaxed listed' E.still as_before;
            };
        weight = omega (arith, E.grown, relaxed-falls l d a u e v net (leads-from net u e v h S.fit.ends).1 start shorter);
      })
    where
      as_before : (x : ℕ) → get_or listed' x 0 ≡ 0 → get_or (relaxed l d a u e v) x 0 ≡ get_or d x 0
      as_before x off =
          ⊎_elim
          (λ (w : get_or (relaxed l d a u e v) x 0 ≡ get_or d x 0). w)
          (λ (w : Shortened l d a u e v (relaxed l d a u e v) x). absurd (omega (arith, E.has, ap (λ k. get_or listed' k 0) w.at)))
          (relaxed-entry l d a u e v x)

  -- Either: its start comes onto the list where it does.
  pub searching-met :
      {x listed' : List ℕ} {r : ℕ} (b : Bool) → net.nodes ≤ most_nodes → b ≡ shortens l d a u e v → x ≡ relaxed l d a u e v →
      Met b net.nodes listed size u listed' r → Spread net l t (Passed into v (p + 1)) d size x listed' r
  searching-met true few told q M = searching-spread few (sym told) q (M.came refl)
  searching-met false few told q M = let (same, none) = M.stayed refl in rw (same, none) (searching-still (sym told) q)
