-- What the parts of a step ask, by what the step asks: each of the tables as it is then. Assumes nothing.
use mathlib.Core.Path.{◌≡◌}
use mathlib.Core.List.{List}
use Prim.Native.Nat.{ℕ}
use Rattle.network.specs.Network.{Network}
use Rattle.network.specs.Resources.{resource_capacities}
use Rattle.network.proofs.Resources.{resource-capacities-length}
use Rattle.method.specs.Choice.{Choice, used_by}
use Rattle.method.specs.Iteration.{State, weight, draw}
use Rattle.tables.specs.Calls.{Pushing, Loading}
use Rattle.lengths.specs.Calls.{Lengthening}
use Rattle.step.specs.Steps.{Stepping, Kept}
use Rattle.step.specs.declared.Progress.{Progress}

module _ {net : Network} {q t : ℕ} {c : Choice} {a : ℕ} {s : State} {p : Progress} (S : Stepping net q c a s) (K : Kept net t s p) where
  module _ {g : ℕ} (drawn : g ≡ draw (resource_capacities net) (used_by net c)) where
    pub pushing : Pushing net c.commodity c.path g s.flow
    pushing = rw drawn S.flow

    module _ {caps path : List ℕ} (ec : caps ≡ resource_capacities net) (ep : path ≡ used_by net c) where
      pub loading : {Y : List ℕ} → Y ≡ s.loads → Loading Y caps t path g
      loading e = rw (e, drawn, ec, ep) (record { adding = S.loads; ending = K.ending; none = K.none })

      pub lengthening : {L : List ℕ} → L ≡ s.lengths → Lengthening L caps q g path p.weight
      unfolding weight
      lengthening e =
          rw (e, drawn, ec, ep)
          (record { growing = S.growing; grown = S.grown; weight = rw (resource-capacities-length net) K.weight })
