-- The upper bound at work on two arcs side by side. For the commodity from 1 to 2, lengths 1 and alpha 1, all hypotheses of `bounded` are met,
-- and 1 on each arc carries the bound, 2. The commodity from 2 to 1 meets those of `unjoined-bounded`. Assumes nothing.
use mathlib.Core.Path.{◌≡◌, refl}
use mathlib.Core.List.{[], ◌∷◌}
use mathlib.Core.Option.{some-injective}
use Prim.Native.Nat.{ℕ, zero, suc, ◌<◌}
use native.Mathlib.Omega.{arith}
use Rattle.arith.specs.Lists.{up_from, up_to}
use Rattle.arith.specs.Sum.{sum}
use Rattle.signed.specs.Signed.{ahead, back}
use Rattle.network.specs.Path.{Joined, follow, path_length}
use Rattle.network.specs.Resources.{limits_below, place, resources, resource_capacities, uses}
use Rattle.network.specs.Flow.{AtMost, Carries, passing, outflow, inflow, leaving, entering}
use Rattle.network.proofs.Leads.{leads-arc, leads-one-way}
use Rattle.network.proofs.Paths.{path-step, path-arcs}
use Rattle.arith.specs.Member.{first}
use Rattle.method.specs.Iteration.{weight}
use Rattle.method.proofs.Bound.{Far, bounded, unjoined-bounded}
use Rattle.method.proofs.TwoArcs.{both, net, ones, arc-at, ends, flow, keeps}

-- A path from 1 to 2 has an arc, of length 1.
far : Far (net 1 2) (both 1) 1
unfolding follow path_length uses
far zero b [] path = omega (arith, some-injective 1 2 path)
far zero b (e ∷ p) path = omega (arith, arc-at 1 e (path-arcs (net 1 2) 1 2 (e ∷ p) path e (first refl)))
far (suc i) b p path = omega arith

at_most : AtMost (net 1 2) ones 1 (weight (net 1 2) (both 1)) 1
at_most = bounded (net 1 2) (ends 1 2 (omega arith) (omega arith) refl) (both 1) 1 far 1 ones (flow 1 2 (omega arith) (omega arith) refl) (keeps 1 2)

-- The bound is 2, and the flow carries it.
tight : (weight (net 1 2) (both 1) ≡ 2) × Carries (net 1 2) ones 2
unfolding ones weight leaving entering outflow inflow passing sum ahead back up_from up_to limits_below place resources resource_capacities
tight = (refl, refl)

-- No path leads from 2 to 1.
cut : (i : ℕ) → i < 1 → Joined (net 2 1) i → ⊥
unfolding follow
cut zero b ([], path) = omega (arith, some-injective 2 1 path)
cut zero b (e ∷ p, path) = let s = path-step (net 2 1) 2 1 e p path in
    let l = leads-arc (net 2 1) 2 e s.0 s.1 in
    let at = arc-at 0 e l in
    omega (arith, (leads-one-way (net 2 1) 2 e s.0 s.1 (rw at refl)).0, arc-at 1 e l)
cut (suc i) b j = omega arith

at-most-nothing : AtMost (net 2 1) ones 1 0 1
at-most-nothing =
    unjoined-bounded (net 2 1) (ends 2 1 (omega arith) (omega arith) refl) cut 1 ones (flow 2 1 (omega arith) (omega arith) refl) (keeps 2 1)
