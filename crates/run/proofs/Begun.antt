-- Before the first iteration: what is noted. Assumes nothing.
use mathlib.Core.Path.{◌≡◌, ap, ◌∙◌}
use mathlib.Core.List.{List}
use Prim.Native.Nat.{ℕ}
use lib.IntN.{ℤ}
use Rattle.length.specs.Level.{threshold}
use Rattle.network.specs.Network.{Network}
use Rattle.network.specs.Resources.{resources}
use Rattle.network.specs.Sound.{Sound}
use Rattle.method.specs.Iteration.{initial, weight}
use Rattle.step.specs.declared.Progress.{Progress}
use Rattle.step.specs.Progress.{state_of, begun, begun_with}
use Rattle.run.specs.Noted.{Noted}
use Rattle.run.specs.Runs.{Chooses}
use Rattle.run.proofs.Running.{Running, running-start}

module _ {net : Network} {q : ℕ} {r : Progress} {d : ℕ} (h : r ≡ begun_with d) where
  pub begin-noted : {L : List ℕ} {t : ℕ} → d ≡ weight net L → t ≡ threshold (resources net) q → Noted net q t L r
  begin-noted w e = record { threshold = e; weight = ap (λ x. x.weight) h ∙ w }

  pub begin-running : {L Y K : List ℕ} {F : List ℤ} → Sound net q → state_of L F Y K begun ≡ initial net → Chooses net → Running net q (state_of L F Y K r)
  begin-running sound start chooses = rw (h, start) (running-start net q sound chooses)
