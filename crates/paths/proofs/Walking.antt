-- A walk on its way: k arcs are written, whatever walk goes on from v completes them, and every walk from s to t comes by v.
-- Assumes nothing.
use mathlib.Core.Path.{◌≡◌, refl, sym, ap, subst, ◌∙◌}
use mathlib.Core.List.{List, [], ◌∷◌, ◌++◌, append_assoc, append-nil}
use mathlib.Core.Option.{some-injective}
use Prim.Native.Nat.{ℕ, ◌+◌, ◌≤◌, ◌<◌}
use native.Mathlib.Nat.{le_refl}
use native.Mathlib.Numerals.{add-one}
use native.Mathlib.Omega.{arith}
use lib.ListN.{length, get_or, take, set, length-set}
use lib.Seq.{length-take-le, take-suc-set}
use Rattle.arith.proofs.Order.{Compared, below, equal, above, compare}
use Rattle.network.specs.Ends.{Node}
use Rattle.network.specs.Network.{Network}
use Rattle.network.specs.Path.{leads}
use Rattle.paths.specs.Calls.{Leaving}
use Rattle.paths.specs.Distances.{Way, Feasible}
use Rattle.index.specs.Index.{arc_at, end_at}
use Rattle.paths.specs.Tight.{Tight}
use Rattle.paths.specs.Walk.{Walk, stop, step}
use Rattle.paths.specs.Walked.{Walkable, Arrived}
use Rattle.network.proofs.Leads.{leads-into}
use Rattle.paths.proofs.Lower.{telescopes}
use Rattle.paths.proofs.Simple.{walk-few}
use Rattle.paths.proofs.Walks.{walk-path, walk-key}

-- The walk from s is at v, with its k arcs in the table. They are a walk to any node that is no farther than v, once one goes on to it: so to v itself.
pub record Walking (net : Network) (l d : List ℕ) (s t size : ℕ) (path : List ℕ) (v k : ℕ) : Type 0 where
  pub whole : length path ≡ size
  pub within : k ≤ size
  pub node : Node net v
  pub completes : (u : ℕ) (p : List ℕ) → get_or d u 0 ≤ get_or d v 0 → Walk net l d u v p → Walk net l d u s (take k path ++ p)
  pub comes-by : (p : List ℕ) → Walk net l d t s p → (q : List ℕ) × Walk net l d t v q

-- From v, which is not t, a walk goes over the lowest-numbered tight arc,
walk-next :
    {net : Network} {out l d : List ℕ} {t v r : ℕ} {p : List ℕ} → Tight net out l d v r → (v ≡ t → ⊥) → Walk net l d t v p →
    (q : List ℕ) × Walk net l d t (end_at out r) q
walk-next T apart stop = absurd (apart refl)
walk-next {net} {out} {l} {d} {t} {v} {r} T apart (step {e = e} {p = q} other way low w) = by_order (compare e (arc_at out r))
  where
    by_order : Compared e (arc_at out r) → (q : List ℕ) × Walk net l d t (end_at out r) q
    by_order (below b) = absurd (T.none-lower e b way)
    by_order (equal same) =
        let to : way.to ≡ end_at out r = some-injective way.to (end_at out r) (sym way.leads-to ∙ (ap (leads net v) same ∙ T.leads-to)) in
        (q, subst (λ (u : ℕ). Walk net l d t u q) to w)
    by_order (above b) = absurd (low (arc_at out r) b (record { to = end_at out r; leads-to = T.leads-to; long = T.long }))

-- so where there is none it is stuck.
walk_none :
    {net : Network} {l d : List ℕ} {t v : ℕ} {p : List ℕ} → ((e : ℕ) → Way net l d v (get_or d v 0) e → ⊥) → (v ≡ t → ⊥) → Walk net l d t v p → ⊥
walk_none none apart stop = apart refl
walk_none none apart (step {e = e} other way low w) = none e way

-- A walk to t, all written: no path has a smaller key, so none that is as short has fewer arcs.
pub walk-arrived :
    {net : Network} {l d : List ℕ} {s t : ℕ} {path : List ℕ} {r : ℕ} → Feasible net l d t → Walk net l d t s (take r path) →
    length (take r path) ≡ r → r < net.nodes → Arrived net l d s t path r
walk-arrived {s = s} {t = t} F w written few =
    record {
      walk = w;
      leads-to = walk-path w;
      arcs = omega arith;
      fewest = λ p h e. omega (arith, walk-key w, telescopes F s t p h);
      few = few;
    }

module _ {net : Network} {out l d : List ℕ} {s t size : ℕ} (W : Walkable net out l d s t size) where
  -- Before the first arc.
  pub walking_start : (path : List ℕ) → length path ≡ size → Walking net l d s t size path s 0
  walking_start path q =
      record {
        whole = q;
        within = omega arith;
        node = W.source;
        completes = λ u p b w. w;
        comes-by = λ p w. (p, w);
      }

  module _ {path : List ℕ} {v k : ℕ} (S : Walking net l d s t size path v k) where
    -- The arcs written are a walk to v,
    so_far : Walk net l d v s (take k path)
    so_far = subst (Walk net l d v s) (append-nil (take k path)) (S.completes v [] (le_refl _) stop)

    written_all : length (take k path) ≡ k
    written_all = length-take-le k path (omega (arith, S.whole, S.within))

    -- so they are fewer than there are nodes.
    pub walking-few : k < net.nodes
    walking-few = omega (arith, walk-few W.fit.ends W.feasible W.source so_far, written_all)

    -- At t the walk is done.
    pub walking-end : v ≡ t → Arrived net l d s t path k
    walking-end q = walk-arrived W.feasible (subst (λ (u : ℕ). Walk net l d u s (take k path)) q so_far) written_all walking-few

    module _ (apart : v ≡ t → ⊥) where
      pub walking_on : Leaving net out l d v
      walking_on = record { fit = W.fit; index = W.index; capped = W.capped; node = S.node.1 }

      -- Where no arc from v is tight there is no walk from s.
      pub walking-stuck : ((e : ℕ) → Way net l d v (get_or d v 0) e → ⊥) → (p : List ℕ) → Walk net l d t s p → ⊥
      walking-stuck none p w = walk_none none apart (S.comes-by p w).1

      module _ {r : ℕ} (T : Tight net out l d v r) where
        abbrev way : Way net l d v (get_or d v 0) (arc_at out r)
        way = record { to = end_at out r; leads-to = T.leads-to; long = T.long }

        -- A tight arc leads to a nearer node, so the walk ends.
        pub next-nearer : get_or d (end_at out r) 0 < get_or d v 0
        next-nearer = omega (arith, T.long)

        room : k < length path
        room = omega (arith, walking-few, S.whole, W.places)

        written : (p : List ℕ) → take (k + 1) (set path k (arc_at out r)) ++ p ≡ take k path ++ (arc_at out r ∷ p)
        written p = rw (add-one, take-suc-set path k (arc_at out r) room, append_assoc)

        -- One arc more.
        pub walking-step : Walking net l d s t size (set path k (arc_at out r)) (end_at out r) (k + 1)
        walking-step =
            record {
              whole = length-set path k (arc_at out r) ∙ S.whole;
              within = omega (arith, room, S.whole);
              node = leads-into net v (arc_at out r) (end_at out r) T.leads-to W.fit.ends;
              completes = λ u p b w.
                  rw (written p) (S.completes u (arc_at out r ∷ p) (omega (arith, next-nearer)) (step (λ q. omega (arith, next-nearer, ap (λ x. get_or d x 0) q)) way T.none-lower w));
              comes-by = λ p w. walk-next T apart (S.comes-by p w).1;
            }
