-- At every state that the run reaches, no load is at the threshold, so that a step may be made with the numbers beside the state.
-- Assumes nothing.
use mathlib.Core.Path.{◌≡◌, sym, ◌∙◌}
use mathlib.Core.Bool.{false}
use Prim.Native.Nat.{ℕ, ◌*◌}
use native.Mathlib.Omega.{arith}
use borrow.Author.Tests.{lt-leb}
use lib.Dec.{leb}
use lib.ListN.{get_or}
use Rattle.arith.proofs.Exists.{none-exists}
use Rattle.length.specs.Level.{threshold}
use Rattle.length.proofs.Bounds.{threshold-most}
use Rattle.network.specs.Network.{Network}
use Rattle.network.specs.Resources.{resources, resource_capacity}
use Rattle.network.specs.Sound.{Sound}
use Rattle.network.proofs.Resources.{resource-capacities-length}
use Rattle.network.proofs.Sounds.{resources-within, resource-capacity-within}
use Rattle.method.specs.Iteration.{State}
use Rattle.method.specs.Run.{ended}
use Rattle.method.proofs.Instance.{seen}
use Rattle.method.proofs.Reached.{Reached}
use Rattle.step.specs.declared.Progress.{Progress}
use Rattle.run.specs.Noted.{Noted}
use Rattle.step.specs.Steps.{Kept}
use Rattle.run.proofs.Running.{ended_is}

module _ (net : Network) (q : ℕ) (sound : Sound net q) (s : State) (r : Reached net q s) where
  -- The run has not ended.
  not_full : ended net q s ≡ false
  unfolding ended threshold seen
  not_full = none-exists (resources net) (λ e. leb (threshold (resources net) q * resource_capacity net e) (get_or s.loads e 0)) (λ e l. lt-leb _ _ (r.below e l))

  pub kept-ready : (t : ℕ) (p : Progress) → Noted net q t s.lengths p → Kept net t s p
  kept-ready t p n =
      let m = resources-within net q sound in
      let x = sound.counts.precision in
      record {
        weight = n.weight;
        ending =
            record {
              same = r.valid.table.places ∙ sym (resource-capacities-length net);
              small = omega (arith, n.threshold, threshold-most (resources net) q m.least m.most x.least x.most);
              sizes = λ e l. (resource-capacity-within net q sound e (omega (arith, resource-capacities-length net))).most;
            };
        none = ended_is net q s t r.valid.table.places n.threshold ∙ not_full;
      }
