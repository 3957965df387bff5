-- The search for a tight arc from v, along the places of v: none that is passed is tight.
-- Assumes nothing.
use mathlib.Core.Path.{◌≡◌, refl, sym, ap, ◌∙◌}
use mathlib.Core.Logic.{⊎_elim}
use mathlib.Core.List.{List}
use mathlib.Core.Option.{some}
use Prim.Native.Nat.{ℕ, ◌+◌, ◌≤◌, ◌<◌}
use native.Mathlib.Nat.{eq-or-lt_of_le, le_refl}
use native.Mathlib.Omega.{arith}
use lib.ListN.{length, get_or}
use Rattle.arith.proofs.Order.{Compared, below, equal, above, compare}
use Rattle.network.specs.Network.{Network}
use Rattle.network.specs.Path.{leads}
use Rattle.network.specs.Onward.{node_length}
use Rattle.network.proofs.Leads.{leads-into}
use Rattle.paths.specs.Calls.{Leaving}
use Rattle.paths.specs.Distances.{Way}
use Rattle.index.specs.Index.{ends_from, begins, arc_at, end_at, Place}
use Rattle.paths.specs.Through.{through}
use Rattle.paths.specs.Tight.{over_at, Offered, Tight}
use Rattle.paths.proofs.NodeLengths.{through-is}
use Rattle.paths.proofs.Rooms.{relaxing}

-- The way over the arc at place p is as far as the distance of v.
abbrev AsFar : List ℕ → List ℕ → List ℕ → ℕ → ℕ → Type 0
AsFar out l d v p = over_at out l d p ≡ get_or d v 0

-- No place of v before p has such an arc.
pub record Passing (out l d : List ℕ) (v p : ℕ) : Type 0 where
  pub from : begins out v ≤ p
  pub none : (q : ℕ) → begins out v ≤ q → q < p → AsFar out l d v q → ⊥

pub passing-first : {out l d : List ℕ} {v : ℕ} → Passing out l d v (begins out v)
passing-first = record { from = le_refl _; none = λ q a b. absurd (omega arith) }

pub passing-more : {out l d : List ℕ} {v p : ℕ} → Passing out l d v p → (AsFar out l d v p → ⊥) → Passing out l d v (p + 1)
passing-more {out} {l} {d} {v} {p} P slack =
    record {
      from = omega (arith, P.from);
      none = λ q a b s.
          ⊎_elim
          (λ (r : q ≡ p). slack (rw r at s))
          (λ (c : q < p). P.none q a c s)
          (eq-or-lt_of_le (omega arith));
    }

module _ {net : Network} {out l d : List ℕ} {v : ℕ} (L : Leaving net out l d v) where
  -- where an arc that keeps to a nearest path stands
  standing : {e : ℕ} (way : Way net l d v (get_or d v 0) e) → (q : ℕ) × Place out v q e way.to × AsFar out l d v q
  standing {e} way =
      let r = L.index.arcs.whole v e way.to L.node way.leads-to in
      let own = through-is net l out L.index.places L.fit.lengths way.to (leads-into net v e way.to way.leads-to L.fit.ends).1 in
      (r.0, r.1, rw (r.1.arc, r.1.end, own) way.long)

  -- With all places passed there is none.
  pub passing-none : {p : ℕ} → Passing out l d v p → begins out (v + 1) ≤ p → (e : ℕ) → Way net l d v (get_or d v 0) e → ⊥
  passing-none P b e way = let r = standing way in P.none r.0 r.1.from (omega (arith, r.1.below)) r.2

  module _ {p : ℕ} (P : Passing out l d v p) (more : p < begins out (v + 1)) where
    led : leads net v (arc_at out p) ≡ some (end_at out p)
    led =
        L.index.arcs.sound v p (arc_at out p) (end_at out p) L.node
        (record { from = P.from; below = more; arc = refl; end = refl })

    place : ends_from + p < length out
    place = omega (arith, L.index.arcs.within v L.node, L.index.arcs.numbers)

    end : end_at out p ≤ net.nodes
    end = (leads-into net v (arc_at out p) (end_at out p) led L.fit.ends).1

    own : through out l (end_at out p) ≡ node_length net l (end_at out p)
    own = through-is net l out L.index.places L.fit.lengths (end_at out p) end

    pub passing-offered : Offered out l d p
    passing-offered =
        record {
          place = place;
          node = omega (arith, end, L.index.arcs.nodes, L.index.arcs.numbers);
          crossing = rw own (relaxing v (arc_at out p) (end_at out p) L.fit L.capped led).crossing;
        }

    -- The first is the lowest.
    pub passing-found : AsFar out l d v p → Tight net out l d v p
    passing-found s =
        record { place = place; leads-to = led; long = rw own at s; none-lower = λ j b way. by_place j b way (compare (standing way).0 p) }
      where
        by_place : (j : ℕ) → j < arc_at out p → (way : Way net l d v (get_or d v 0) j) → Compared (standing way).0 p → ⊥
        by_place j b way (below c) = let r = standing way in P.none r.0 r.1.from c r.2
        by_place j b way (equal q) = let r = standing way in omega (arith, sym r.1.arc ∙ ap (arc_at out) q)
        by_place j b way (above c) =
            let r = standing way in
            omega (
              arith,
              L.index.arcs.ascending v p r.0 (arc_at out p) j (end_at out p) way.to L.node
                  (record { from = P.from; below = more; arc = refl; end = refl })
                  r.1
                  c,
            )
