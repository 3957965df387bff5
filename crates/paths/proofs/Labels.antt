-- The labels of a search: relaxation keeps them labels, and at rest they are the distances.
-- Assumes nothing.
use mathlib.Core.Path.{◌≡◌, sym, subst}
use mathlib.Core.Logic.{⊎_elim}
use mathlib.Core.List.{List}
use mathlib.Core.Option.{some}
use Prim.Native.Nat.{ℕ, ◌≤◌, ◌<◌}
use native.Mathlib.Nat.{le_antisymm}
use native.Mathlib.Omega.{arith}
use lib.ListN.{get_or}
use Rattle.network.specs.Network.{Network}
use Rattle.network.specs.Path.{leads}
use Rattle.network.specs.Onward.{node_length}
use Rattle.paths.specs.Distances.{over, Distances}
use Rattle.paths.specs.Labels.{Over, Labels}
use Rattle.paths.specs.Relax.{relaxed}
use Rattle.paths.proofs.Relaxing.{Shortened, relaxed-entry, relaxed-le}

module _ {net : Network} {l d : List ℕ} {t far : ℕ} where
  -- At rest, where no arc shortens, they are the distances.
  pub labels-rest :
      Labels net l d t far → ((u e w : ℕ) → leads net u e ≡ some w → get_or d u 0 ≤ over net l d e w) → Distances net l d t far
  labels-rest L rest =
      record {
        feasible = record { sink = L.sink; arcs = rest };
        tight = λ v node apart near.
            let (e, o) = L.way v node apart near in
            (e, record { to = o.to; leads-to = o.leads-to; long = le_antisymm o.long (rest v e o.to o.leads-to) });
      }

module _ (net : Network) (l d : List ℕ) (x u e w : ℕ) (own : x ≡ node_length net l w) (h : leads net u e ≡ some w) where
  -- The way over any arc is no farther than before.
  over-le : (f y : ℕ) → over net l (relaxed l d x u e w) f y ≤ over net l d f y
  over-le f y = omega (arith, relaxed-le l d x u e w y)

  -- An entry that has changed is the way over e; any other has the arc that it had.
  way-relaxed :
      (v far : ℕ) → (get_or d v 0 < far → (f : ℕ) × Over net l d v f) → get_or (relaxed l d x u e w) v 0 < far →
      (f : ℕ) × Over net l (relaxed l d x u e w) v f
  way-relaxed v far had near =
      ⊎_elim
      (λ (q : get_or (relaxed l d x u e w) v 0 ≡ get_or d v 0).
      let (f, o) = had (omega arith) in
      (f, record { to = o.to; leads-to = o.leads-to; long = omega (arith, o.long, over-le f o.to) }))
      (λ (s : Shortened l d x u e w (relaxed l d x u e w) v). (
        e,
        record {
          to = w;
          leads-to = subst (λ (y : ℕ). leads net y e ≡ some w) (sym s.at) h;
          long = omega (arith, s.now, over-le e w, own);
        },
      ))
      (relaxed-entry l d x u e w v)

  pub labels-relaxed : {t far : ℕ} → Labels net l d t far → Labels net l (relaxed l d x u e w) t far
  labels-relaxed {t} {far} L =
      record {
        sink = omega (arith, L.sink, relaxed-le l d x u e w t);
        capped = λ v c. omega (arith, L.capped v c, relaxed-le l d x u e w v);
        way = λ v node apart. way-relaxed v far (L.way v node apart);
      }
