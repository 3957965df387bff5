-- The greedy walk by a feasible table, where it arrives, is a path whose key is the entry of its start, and the first such path in dictionary order.
-- docs/WORKING.md, "What a distance is".
-- Assumes nothing.
use mathlib.Core.Path.{◌≡◌, refl, sym, ap, subst, ◌∙◌}
use mathlib.Core.Logic.{⊎_elim}
use mathlib.Core.Option.{some, some-injective}
use mathlib.Core.List.{List}
use Prim.Native.Nat.{ℕ, ◌+◌, ◌<◌}
use native.Mathlib.Nat.{eq-or-lt_of_le}
use native.Mathlib.Omega.{arith}
use lib.ListN.{get_or}
use Rattle.network.specs.Network.{Network}
use Rattle.network.specs.Onward.{onward}
use Rattle.network.specs.Path.{leads, follow, Path}
use Rattle.network.proofs.Leads.{leads-beyond}
use Rattle.network.proofs.Paths.{path-step, path-cons}
use Rattle.method.specs.Order.{Before, ends, smaller, agrees}
use Rattle.paths.specs.Distances.{over, Way, Feasible}
use Rattle.paths.specs.Key.{path_key}
use Rattle.paths.specs.Walk.{Walk, stop, step}
use Rattle.paths.proofs.Lower.{telescopes}

module _ {net : Network} {l d : List ℕ} {t : ℕ} where
  -- It is a path,
  pub walk-path : {v : ℕ} {p : List ℕ} → Walk net l d t v p → Path net v t p
  unfolding follow
  walk-path stop = refl
  walk-path (step {v = v} {e = e} {p = p} apart way low w) = path-cons net v way.to t e p way.leads-to (walk-path w)

  -- and its key is what its start's entry is above that of t.
  pub walk-key : {v : ℕ} {p : List ℕ} → Walk net l d t v p → path_key net l v p + get_or d t 0 ≡ get_or d v 0
  unfolding onward
  walk-key stop = omega arith
  walk-key (step {v = v} {e = e} apart way low w) =
      rw (leads-beyond net v e way.to way.leads-to) (omega (arith, way.long, walk-key w))

  -- The way over an arc that is not tight is farther than the entry of where it starts,
  slack-farther :
      Feasible net l d t → (v j w : ℕ) → (Way net l d v (get_or d v 0) j → ⊥) → leads net v j ≡ some w → get_or d v 0 < over net l d j w
  slack-farther F v j w slack h =
      ⊎_elim
      (λ (q : get_or d v 0 ≡ over net l d j w). absurd (slack (record { to = w; leads-to = h; long = sym q })))
      (λ (b : get_or d v 0 < over net l d j w). b)
      (eq-or-lt_of_le (F.arcs v j w h))

  -- so paths that are before a walk in dictionary order have greater keys.
  pub walk_first :
      {v : ℕ} {p : List ℕ} → Feasible net l d t → Walk net l d t v p → (q : List ℕ) → Path net v t q → Before q p →
      get_or d v 0 < path_key net l v q
  unfolding follow onward
  walk_first F stop q h b = elim b [ ]
  walk_first F (step {v = v} apart way low w) q h ends = absurd (apart (some-injective v t h))
  walk_first F (step {v = v} apart way low w) q h (smaller {d = j} {p = r} b) =
      let s = path-step net v t j r h in
      rw (leads-beyond net v j s.0 s.1) (omega (arith, slack-farther F v j s.0 (low j b) s.1, telescopes F s.0 t r s.2, F.sink))
  walk_first F (step {v = v} {e = e} apart way low w) q h (agrees {d = j} {p = r} same b) =
      let s = path-step net v t j r h in
      let to : s.0 ≡ way.to = some-injective s.0 way.to (sym s.1 ∙ (ap (leads net v) same ∙ way.leads-to)) in
      rw (leads-beyond net v j s.0 s.1, to)
      (omega (
        arith,
        way.long,
        ap (λ i. get_or l i 0) same,
        walk_first F w r (subst (λ (u : ℕ). Path net u t r) to s.2) b,
      ))
