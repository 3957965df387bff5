-- The ends of a sound network, as the laws of paths ask for them, and its resources. Assumes nothing.
use mathlib.Core.Path.{◌≡◌, sym, subst}
use mathlib.Core.Bool.{true, not, true≢false}
use mathlib.Core.Logic.{⊎_elim}
use Prim.Native.Nat.{ℕ, zero, suc, ◌≤◌, ◌<◌}
use native.Mathlib.Omega.{arith}
use lib.Dec.{eqb}
use Rattle.bounds.specs.Bounds.{most_arcs, most_capacity}
use Rattle.network.specs.Ends.{Ends}
use Rattle.network.specs.Network.{Network, arcs, limit, limited}
use Rattle.network.specs.Resources.{place, resources, resource_capacity}
use Rattle.network.specs.Sound.{Within, Sound}
use Rattle.network.proofs.Resources.{arcs-le, resource-capacity-arc, resource-capacity-node, resource-cases}

module _ (net : Network) (q : ℕ) (s : Sound net q) where
  pub sound-ends : Ends net
  sound-ends =
      record {
        tails = λ e l. let t = (s.arc-ends e l).first in (t.least, t.most);
        heads = λ e l. let t = (s.arc-ends e l).second in (t.least, t.most);
        sources = λ i l. let t = (s.commodity-ends i l).first in (t.least, t.most);
        sinks = λ i l. let t = (s.commodity-ends i l).second in (t.least, t.most);
        apart = λ i l. (s.commodity-ends i l).differ;
      }

  pub resources-within : Within 1 most_arcs (resources net)
  resources-within = record { least = omega (arith, s.counts.of-arcs.least, arcs-le net); most = s.counts.of-resources }

  -- A limit that is set is at least 1.
  limit-least : (x : ℕ) → not (eqb x 0) ≡ true → 1 ≤ x
  limit-least zero h = absurd (true≢false (sym h))
  limit-least (suc x) h = omega arith

  pub resource-capacity-within : (r : ℕ) → r < resources net → Within 1 most_capacity (resource_capacity net r)
  resource-capacity-within r l =
      ⊎_elim
      (λ (b : r < arcs net). subst (Within 1 most_capacity) (sym (resource-capacity-arc net r b)) (s.arc-capacity r b))
      (λ (n : (v : ℕ) × (v ≤ net.nodes) × (limited net v ≡ true) × (place net v ≡ r)).
      subst (λ r. Within 1 most_capacity (resource_capacity net r)) n.3
      (subst (Within 1 most_capacity) (sym (resource-capacity-node net n.0 n.1 n.2))
      (record { least = limit-least (limit net n.0) n.2; most = s.node-limit n.0 n.1 })))
      (resource-cases net r l)
