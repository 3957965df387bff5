-- What an iteration leaves, in the loop of the run: its last state, or one from which the run goes on. Assumes nothing.
use mathlib.Core.Path.{◌≡◌, sym, ◌∙◌}
use mathlib.Core.Bool.{true, false}
use mathlib.Core.List.{List}
use Prim.Native.Nat.{ℕ, ◌<◌}
use Rattle.network.specs.Network.{Network}
use Rattle.network.specs.Sound.{Sound}
use Rattle.method.specs.Iteration.{State}
use Rattle.method.specs.Run.{run}
use Rattle.step.specs.declared.Progress.{Progress}
use Rattle.run.specs.Noted.{Noted, Iterated}
use Rattle.run.specs.Runs.{Chooses}
use Rattle.run.proofs.Running.{left, Running, running-less, running-last, running-next}

module _ (net : Network) (q : ℕ) (sound : Sound net q) (chooses : Chooses net) {s : State} (running : Running net q s)
    {new : State} {r : Progress} (w : Iterated net q s new r) where
  pub onward-less : left net q new < left net q s
  onward-less = rw w.state (running-less net q sound chooses s running)

  pub onward-last : r.ended ≡ true → new ≡ run net q
  onward-last h = w.state ∙ running-last net q sound chooses s running (sym w.ended ∙ h)

  pub onward-running : r.ended ≡ false → Running net q new
  onward-running h = rw w.state (running-next net q sound chooses s running (sym w.ended ∙ h))

-- D is noted anew.
pub onward-noted :
    {net : Network} {q t : ℕ} {s new : State} {l : List ℕ} {p r : Progress} → Noted net q t l p → Iterated net q s new r → Noted net q t new.lengths r
onward-noted n w = record { threshold = n.threshold; weight = w.weight }
