-- At every state that the run reaches, a step along the chosen path is within its tables and its numbers.
-- Assumes nothing.
use mathlib.Core.Path.{◌≡◌, refl, sym, ◌∙◌}
use mathlib.Core.Option.{some}
use mathlib.Core.List.{List}
use Prim.Native.Nat.{ℕ, ◌*◌, ◌^◌, ◌≤◌, ◌<◌}
use native.Mathlib.Nat.{mul-le-mul_right, mul-le-mul}
use native.Mathlib.Omega.{arith}
use lib.ListN.{length, get_or}
use Rattle.bounds.specs.Bounds.{most_nodes, most_arcs, most_capacity}
use Rattle.length.specs.Length.{growth}
use Rattle.network.specs.Network.{Network, arcs, commodities, source, sink}
use Rattle.network.specs.Path.{path_length}
use Rattle.network.specs.Resources.{resources, resource_capacities}
use Rattle.network.specs.Sound.{Sound}
use Rattle.network.proofs.Resources.{arcs-le, resource-capacities-length}
use Rattle.network.proofs.Sounds.{sound-ends, resource-capacity-within}
use Rattle.network.proofs.Uses.{uses-few}
use Rattle.method.specs.Choice.{Choice, used_by, choice}
use Rattle.method.specs.Iteration.{State, draw, grown}
use Rattle.method.specs.Sizes.{Sizes}
use Rattle.method.proofs.Fitting.{flow-below}
use Rattle.method.proofs.Reached.{Reached, Valid, chosen_at, fair}
use Rattle.method.proofs.Sized.{reached-sizes, grown-sizes}
use Rattle.method.proofs.Times.{update-length}
use Rattle.method.proofs.Used.{members-below, chosen-arcs, chosen-some}
use Rattle.lengths.specs.Calls.{Capacities, Settling}
use Rattle.step.specs.Steps.{Stepping}
use Rattle.tables.specs.Calls.{Pushing}
use Rattle.tables.specs.Tables.{Under, longer}
use Rattle.tables.proofs.OnPath.{draw-at, draw-most, below-under}

module _ (net : Network) (q : ℕ) (sound : Sound net q) (s : State) (r : Reached net q s) (c : Choice)
    (h : choice net s.lengths ≡ some c) where
  abbrev caps : List ℕ
  caps = resource_capacities net

  -- what the path uses
  abbrev p : List ℕ
  p = used_by net c

  abbrev v : Valid net q s
  v = r.valid

  z : Sizes net s
  z = reached-sizes net q sound s r

  inside : (e : ℕ) → e < length caps → e < resources net
  inside e l = omega (arith, resource-capacities-length net)

  capacities : Capacities caps
  capacities =
      record {
        least = λ e l. (resource-capacity-within net q sound e (inside e l)).least;
        most = λ e l. (resource-capacity-within net q sound e (inside e l)).most;
      }

  same : length s.lengths ≡ length caps
  same = v.lengths ∙ sym (resource-capacities-length net)

  short : Under (2 ^ 40) s.lengths
  short e l = z.length_high e (omega (arith, v.lengths))

  places : Under (length caps) p
  places j l = omega (arith, below-under (fair net q sound s v c h).below j l, resource-capacities-length net)

  arc : 1 ≤ length p
  arc = chosen-some net s.lengths c (chosen_at net q sound s v c h) (sound-ends net q sound)

  few-arcs : length c.path < most_nodes
  few-arcs = omega (arith, (chosen_at net q sound s v c h).few, sound.counts.of-nodes.most)

  few : length p ≤ 2 * most_nodes
  few =
      omega
      (arith, few-arcs, uses-few net (source net c.commodity) (sink net c.commodity) c.path (chosen_at net q sound s v c h).path)

  small : draw caps p ≤ most_capacity
  small = draw-most caps p arc places capacities.most

  listed : c.commodity < commodities net
  listed = (chosen_at net q sound s v c h).commodity

  -- The amounts of the flow are below what bounds the loads.
  pushing : Pushing net c.commodity c.path (draw caps p) s.flow
  pushing =
      let all = mul-le-mul sound.counts.of-commodities.most sound.counts.of-arcs.most in
      let most = flow-below net (2 ^ 21) s.flow s.loads s.total v.table sound.counts.of-arcs.least
      (λ e l. z.load-high e (omega (arith, arcs-le net))) in
      record {
        listed = listed;
        row = omega (arith, mul-le-mul_right (arcs net) listed, v.table.rows);
        long = omega (arith, v.table.rows, all);
        places = below-under (members-below c.path (chosen-arcs net s.lengths c (chosen_at net q sound s v c h)));
        amounts = λ j l. omega (arith, most j l);
        small = small;
        few = omega (arith, few-arcs);
      }

  arcs-few : length caps ≤ most_arcs
  arcs-few = omega (arith, resource-capacities-length net, sound.counts.of-resources)

  grown-settling : Settling caps (longer caps q (draw caps p) p s.lengths)
  unfolding grown
  grown-settling =
      let long = update-length (λ e x. growth q (draw caps p) (get_or caps e 0) x) p s.lengths in
      record {
        same = long ∙ same;
        arcs = arcs-few;
        sizes = capacities.most;
        grown = λ e l. grown-sizes net q sound s v c h e (omega (arith, long, v.lengths));
      }

  pub ready : Stepping net q c (path_length s.lengths p) s
  ready =
      record {
        some-arc = arc;
        alpha = refl;
        growing =
            record {
              same = same;
              coarsest = sound.counts.precision.least;
              finest = sound.counts.precision.most;
              places = places;
              once = (fair net q sound s v c h).once;
              drawn = draw-at caps p;
              few = few;
              arcs = arcs-few;
              sizes = capacities;
              short = short;
            };
        grown = grown-settling;
        flow = pushing;
        loads =
            record {
              places = λ j l. omega (arith, places j l, v.table.places, resource-capacities-length net);
              amounts = λ e l. omega (arith, z.load-high e (omega (arith, v.table.places)));
              small = small;
              few = few;
            };
        total = omega (arith, z.total-high);
        count = omega (arith, z.count-high);
      }
