-- A call is accepted exactly where its network is sound and none of the call's own conditions holds.
-- Assumes nothing.
use mathlib.Core.Path.{◌≡◌}
use mathlib.Core.List.{List, ◌++◌}
use Prim.Native.Nat.{ℕ, zero, suc, ◌≤◌, ◌<◌}
use native.Mathlib.Omega.{arith}
use borrow.Author.Tests.{ltb-false, le-ltb}
use Rattle.arith.specs.Lists.{up_to, flat}
use Rattle.bounds.specs.Bounds.{most_capacity}
use Rattle.network.specs.Network.{Network, arcs, commodities, tail, head, capacity, limit, source, sink}
use Rattle.network.specs.Resources.{resources}
use Rattle.network.specs.Sound.{Within, TwoNodes, Counts, Sound}
use Rattle.network.specs.Verdict.{Condition, size_conditions, arc_conditions, limit_conditions, commodity_conditions, item_conditions, verdict, verdict_on}
use Rattle.network.specs.Refusal.{Accepted}
use Rattle.network.proofs.Bounds.{within, not-outside, ends, not-loose}
use Rattle.network.proofs.Decided.{Quiet, accepted-quiet, quiet-accepted}
use Rattle.network.proofs.Each.{none, more, each_append, each_left, each_right, each-flat, each_item}
use Rattle.network.proofs.Sizes.{sizes-kept, sizes-quiet}

module _ (net : Network) where
  -- the conditions of one arc, one node and one commodity
  arc-kept : (e : ℕ) → Quiet (arc_conditions net e) → TwoNodes net.nodes (tail net e) (head net e) × Within 1 most_capacity (capacity net e)
  unfolding arc_conditions
  arc-kept e (more a (more b none)) = (ends _ _ _ a, within _ _ _ b)

  limit-kept : (v : ℕ) → Quiet (limit_conditions net v) → limit net (suc v) ≤ most_capacity
  unfolding limit_conditions
  limit-kept v (more a none) = ltb-false _ _ a

  commodity-kept : (i : ℕ) → Quiet (commodity_conditions net i) → TwoNodes net.nodes (source net i) (sink net i)
  unfolding commodity_conditions
  commodity-kept i (more a none) = ends _ _ _ a

  arcs-quiet : Quiet (item_conditions net) → (e : ℕ) → e < arcs net → Quiet (arc_conditions net e)
  unfolding item_conditions
  arcs-quiet h = each_item (arc_conditions net) (arcs net) (each_left _ _ h)

  limits-quiet : Quiet (item_conditions net) → (v : ℕ) → v < net.nodes → Quiet (limit_conditions net v)
  unfolding item_conditions
  limits-quiet h =
      each_item (limit_conditions net) net.nodes
      (each_left _ (flat (commodity_conditions net) (up_to (commodities net))) (each_right (flat (arc_conditions net) (up_to (arcs net))) h))

  commodities-quiet : Quiet (item_conditions net) → (i : ℕ) → i < commodities net → Quiet (commodity_conditions net i)
  unfolding item_conditions
  commodities-quiet h =
      each_item (commodity_conditions net) (commodities net)
      (each_right (flat (limit_conditions net) (up_to net.nodes)) (each_right (flat (arc_conditions net) (up_to (arcs net))) h))

  -- node 0 is none, and has no limit
  limit-within : Quiet (item_conditions net) → (v : ℕ) → v ≤ net.nodes → limit net v ≤ most_capacity
  limit-within h zero l = omega arith
  limit-within h (suc v) l = limit-kept v (limits-quiet h v l)

  items-quiet : (q : ℕ) → Sound net q → Quiet (item_conditions net)
  unfolding item_conditions arc_conditions limit_conditions commodity_conditions
  items-quiet q s =
      each_append
      (each-flat (arc_conditions net) (arcs net) (λ e l. more (not-loose (s.arc-ends e l)) (more (not-outside (s.arc-capacity e l)) none)))
      (each_append
      (each-flat (limit_conditions net) net.nodes (λ v l. more (le-ltb _ _ (s.node-limit (suc v) l)) none))
      (each-flat (commodity_conditions net) (commodities net) (λ i l. more (not-loose (s.commodity-ends i l)) none)))

  items-sound : (q : ℕ) → Counts net.nodes (arcs net) (resources net) (commodities net) q → Quiet (item_conditions net) → Sound net q
  items-sound q c h =
      record {
        counts = c;
        arc-ends = λ e l. (arc-kept e (arcs-quiet h e l)).0;
        arc-capacity = λ e l. (arc-kept e (arcs-quiet h e l)).1;
        node-limit = limit-within h;
        commodity-ends = λ i l. commodity-kept i (commodities-quiet h i l);
      }

  -- The items pass, within bounds.
  pub items-accepted : (q : ℕ) → Counts net.nodes (arcs net) (resources net) (commodities net) q → verdict (item_conditions net) ≡ Accepted → Sound net q
  items-accepted q c h = items-sound q c (accepted-quiet (item_conditions net) h)

  module _ (q : ℕ) (own : List Condition) where
    abbrev sizes : List Condition
    sizes = size_conditions net.nodes (arcs net) (resources net) (commodities net) q

    pub accepted-sound : verdict_on net q own ≡ Accepted → Sound net q × (verdict own ≡ Accepted)
    unfolding verdict_on
    accepted-sound h =
        let all = accepted-quiet (sizes ++ (own ++ item_conditions net)) h in
        let rest = each_right sizes all in
        (items-sound q (sizes-kept _ _ _ _ _ (each_left sizes _ all)) (each_right own rest), quiet-accepted (each_left own _ rest))

    pub sound-accepted : Sound net q → verdict own ≡ Accepted → verdict_on net q own ≡ Accepted
    unfolding verdict_on
    sound-accepted s h =
        quiet-accepted (each_append (sizes-quiet _ _ _ _ _ s.counts) (each_append (accepted-quiet own h) (items-quiet q s)))
