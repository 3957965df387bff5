-- A step along the chosen path is an iteration. Assumes nothing.
use mathlib.Core.Path.{◌≡◌, sym, ap, ◌∙◌}
use mathlib.Core.Option.{some}
use Prim.Native.Nat.{ℕ}
use lib.ListN.{length}
use Rattle.length.specs.Level.{threshold}
use Rattle.network.specs.Network.{Network}
use Rattle.network.specs.Resources.{resources}
use Rattle.method.specs.Choice.{Choice, used_by, choice}
use Rattle.method.specs.Iteration.{State, iteration, advance}
use Rattle.method.specs.Run.{ended}
use Rattle.method.proofs.Times.{update-length}
use Rattle.step.specs.declared.Progress.{Progress}
use Rattle.step.specs.Steps.{Stepped}
use Rattle.run.specs.Noted.{Iterated}
use Rattle.run.proofs.Chosen.{iteration-is}
use Rattle.run.proofs.Running.{ended_is}

module _ (net : Network) (q t : ℕ) (e : t ≡ threshold (resources net) q) (s : State) (places : length s.loads ≡ resources net)
    (c : Choice) (h : choice net s.lengths ≡ some c) (new : State) (r : Progress) (w : Stepped net q t c s new r) where
  state : new ≡ iteration net q s
  state = w.state ∙ sym (iteration-is net q s c h)

  loaded : length new.loads ≡ resources net
  unfolding advance
  loaded = ap (λ x. length x.loads) w.state ∙ (update-length _ (used_by net c) s.loads ∙ places)

  pub iterated : Iterated net q s new r
  iterated =
      record {
        state = state;
        weight = w.weight;
        ended = w.ended ∙ (ended_is net q new t loaded e ∙ ap (ended net q) state);
      }
