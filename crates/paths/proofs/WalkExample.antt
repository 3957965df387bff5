-- Two tables of distances, and a walk in which the number of arcs decides between paths as long, one of them over a limited node: so these exist.
-- Assumes nothing.
use mathlib.Core.Path.{◌≡◌, refl, ap}
use mathlib.Core.Bool.{false}
use mathlib.Core.List.{List, [], ◌∷◌}
use mathlib.Core.Option.{some}
use Prim.Native.Nat.{ℕ, zero, suc, ◌+◌, ◌^◌, ◌≤◌, ◌<◌}
use native.Mathlib.Omega.{arith}
use lib.ListN.{get_or}
use borrow.Author.Count.{below_none, below_more}
use Rattle.network.specs.Ends.{Node}
use Rattle.network.specs.Network.{Network, tail, head, reversible}
use Rattle.network.specs.Path.{leads, path_length}
use Rattle.network.specs.Resources.{limits_below, place, resources, used_at}
use Rattle.network.specs.Onward.{node_length}
use Rattle.network.proofs.Leads.{leads-arc, leads-one-way}
use Rattle.paths.specs.Distances.{over, Way, Distances}
use Rattle.paths.specs.Far.{far, Bounded}
use Rattle.paths.specs.Walk.{Walk, stop, step}

-- What holds of 0, 1 and 2 holds below 3.
pub three : (P : ℕ → Type 0) → P 0 → P 1 → P 2 → (e : ℕ) → e < 3 → P e
three P a b c = below_more P 2 (below_more P 1 (below_more P 0 (below_none P) a) b) c

-- Arcs 1 to 2, 2 to 3 and 1 to 3, a limit at node 2, and commodities from ss to ts.
abbrev pub floor : List ℕ → List ℕ → Network
floor ss ts =
    record {
      nodes = 3;
      tails = 1 ∷ 2 ∷ 1 ∷ [];
      heads = 2 ∷ 3 ∷ 3 ∷ [];
      capacities = 1 ∷ 1 ∷ 1 ∷ [];
      marks = 0 ∷ 0 ∷ 0 ∷ [];
      limits = 0 ∷ 1 ∷ [];
      sources = ss;
      sinks = ts;
    }

-- By these the path over node 2, which is the last resource, and the straight arc are equally long.
abbrev pub lengths : List ℕ
lengths = 1 ∷ 1 ∷ 3 ∷ 1 ∷ []

-- From node 1 it is a length of 3 to node 3, and from node 2 one of 1, each over one arc. No node is numbered 0, so the first place holds anything.
abbrev pub near : List ℕ
near = 0 ∷ 193 ∷ 65 ∷ 0 ∷ []

-- To node 1 no path leads from nodes 2 and 3.
abbrev pub away : List ℕ
away = 0 ∷ 0 ∷ far ∷ far ∷ []

module _ (ss ts : List ℕ) where
  -- Node 2 is a resource, beside the arcs, and node 3 is none.
  pub resources-are : resources (floor ss ts) ≡ 4
  unfolding resources place limits_below
  resources-are = refl

  node-2 : node_length (floor ss ts) lengths 2 ≡ 1
  unfolding node_length used_at place limits_below path_length
  node-2 = refl

  node-3 : node_length (floor ss ts) lengths 3 ≡ 0
  unfolding node_length used_at place limits_below path_length
  node-3 = refl

  -- The lengths are those of a run.
  pub bounded : Bounded (floor ss ts) lengths
  bounded e b =
      below_more (λ e. get_or lengths e 0 < 2 ^ 40) 3 (three (λ e. get_or lengths e 0 < 2 ^ 40) (omega arith) (omega arith) (omega arith)) (omega arith) e
      (omega (arith, resources-are))

  -- No arc is reversible, so each leads from its tail to its head.
  onward : (u e w : ℕ) → leads (floor ss ts) u e ≡ some w → (tail (floor ss ts) e ≡ u) × (head (floor ss ts) e ≡ w)
  onward u e w h =
      leads-one-way (floor ss ts) u e w h
      (three (λ e. reversible (floor ss ts) e ≡ false) refl refl refl e (leads-arc (floor ss ts) u e w h))

  -- The way over some arc is as far as the distance of v, unless v is t or far.
  abbrev Tight : List ℕ → ℕ → ℕ → Type 0
  Tight d t v = (v ≡ t → ⊥) → get_or d v 0 < far → (e : ℕ) × Way (floor ss ts) lengths d v (get_or d v 0) e

  -- A table of distances, by a look at each arc and each node.
  table :
      (d : List ℕ) (t : ℕ) → get_or d t 0 ≡ 0 → get_or d 1 0 ≤ 129 + get_or d 2 0 → get_or d 2 0 ≤ 65 + get_or d 3 0 → get_or d 1 0 ≤ 193 + get_or d 3 0 →
      Tight d t 1 → Tight d t 2 → Tight d t 3 → Distances (floor ss ts) lengths d t far
  table d t z a b c at_1 at-2 at-3 = record { feasible = record { sink = z; arcs = feasible }; tight = tight }
    where
      feasible : (u e w : ℕ) → leads (floor ss ts) u e ≡ some w → get_or d u 0 ≤ over (floor ss ts) lengths d e w
      feasible u e w h =
          let r = onward u e w h in
          let at =
          three (λ e. get_or d (tail (floor ss ts) e) 0 ≤ over (floor ss ts) lengths d e (head (floor ss ts) e))
          (omega (arith, a, node-2)) (omega (arith, b, node-3)) (omega (arith, c, node-3)) e (leads-arc (floor ss ts) u e w h) in
          omega (arith, at, ap (λ v. get_or d v 0) r.0, ap (λ v. get_or d v 0) r.1, ap (node_length (floor ss ts) lengths) r.1)

      tight : (v : ℕ) → Node (floor ss ts) v → Tight d t v
      tight zero n = absurd (omega arith)
      tight (suc v) n = three (λ v. Tight d t (suc v)) at_1 at-2 at-3 v (omega arith)

  leads-1 : leads (floor ss ts) 1 2 ≡ some 3
  unfolding leads
  leads-1 = refl

  leads-2 : leads (floor ss ts) 2 1 ≡ some 3
  unfolding leads
  leads-2 = refl

  abbrev way-1 : Way (floor ss ts) lengths near 1 193 2
  way-1 = record { to = 3; leads-to = leads-1; long = omega (arith, node-3) }

  abbrev way-2 : Way (floor ss ts) lengths near 2 65 1
  way-2 = record { to = 3; leads-to = leads-2; long = omega (arith, node-3) }

  pub to-3 : Distances (floor ss ts) lengths near 3 far
  to-3 =
      table near 3 refl (omega arith) (omega arith) (omega arith) (λ n b. (2, way-1)) (λ n b. (1, way-2)) (λ n b. absurd (n refl))

  pub to-1 : Distances (floor ss ts) lengths away 1 far
  to-1 =
      table away 1 refl (omega arith) (omega arith) (omega arith)
      (λ n b. absurd (n refl))
      (λ n b. absurd (omega arith))
      (λ n b. absurd (omega arith))

  -- The walk from node 1 goes over arc 2, not over arc 0, by which a path is as long but has one arc more.
  pub walk : Walk (floor ss ts) lengths near 3 1 (2 ∷ [])
  walk = step {v = 1} {e = 2} (λ q. omega arith) way-1 farther stop
    where
      farther : (j : ℕ) → j < 2 → Way (floor ss ts) lengths near 1 193 j → ⊥
      farther =
          below_more (λ j. Way (floor ss ts) lengths near 1 193 j → ⊥) 1
          (below_more (λ j. Way (floor ss ts) lengths near 1 193 j → ⊥) 0 (λ j b w. omega arith)
          (λ w.
          let to = (onward 1 0 w.to w.leads-to).1 in
          omega (arith, w.long, node-2, ap (λ v. get_or near v 0) to, ap (node_length (floor ss ts) lengths) to)))
          (λ w. omega (arith, (onward 1 1 w.to w.leads-to).0))
