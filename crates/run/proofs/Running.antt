-- The loop of the run: what holds before each iteration, what an iteration makes of it, and what the last one leaves.
-- Assumes nothing.
use mathlib.Core.Path.{◌≡◌, refl, sym, ap, ◌∙◌}
use mathlib.Core.Bool.{Bool, true, false}
use Prim.Native.Nat.{ℕ, suc, ◌*◌, ◌-◌, ◌<◌}
use native.Mathlib.Nat.{sub-zero}
use native.Mathlib.Omega.{arith}
use lib.Dec.{leb}
use lib.ListN.{length, get_or}
use Rattle.arith.specs.Lists.{exists}
use Rattle.length.specs.Level.{threshold}
use Rattle.network.specs.Network.{Network}
use Rattle.network.specs.Resources.{resources, resource_capacities}
use Rattle.network.specs.Sound.{Sound}
use Rattle.method.specs.Iteration.{State, initial, iteration}
use Rattle.method.specs.Run.{ended, runs, run}
use Rattle.method.specs.Underway.{Underway}
use Rattle.method.proofs.Ends.{next-count, underway-start, underway-next, underway-reached}
use Rattle.method.proofs.Sized.{reached-count}
use Rattle.run.specs.Runs.{Chooses}

-- How many iterations there may still be: m * T less the count.
abbrev pub left : Network → ℕ → State → ℕ
left net q s = resources net * threshold (resources net) q - s.count

-- The run goes on from here as the definition's does.
pub record Running (net : Network) (q : ℕ) (s : State) : Type 0 where
  pub underway : Underway net q s
  pub rest : runs net q (left net q s) s ≡ run net q

module _ (net : Network) (q : ℕ) (sound : Sound net q) (chooses : Chooses net) where
  pub running-start : Running net q (initial net)
  unfolding run initial
  running-start =
      record { underway = underway-start net q sound chooses; rest = ap (λ n. runs net q n (initial net)) (sub-zero (resources net * threshold (resources net) q)) }

  module _ (s : State) (r : Running net q s) where
    abbrev t : State
    t = iteration net q s

    -- One iteration less is left.
    pub running-less : left net q t < left net q s
    running-less = omega (arith, next-count net q sound chooses s, reached-count net q sound s (underway-reached net q sound chooses s r.underway))

    split : left net q s ≡ suc (left net q t)
    split = omega (arith, next-count net q sound chooses s, reached-count net q sound s (underway-reached net q sound chooses s r.underway))

    after : (b : Bool) → ended net q t ≡ b → runs net q (suc (left net q t)) s ≡ elim b [ true ↦ t | false ↦ runs net q (left net q t) t ]
    unfolding runs
    after b h = rw (h, runs) refl

    whole : (b : Bool) → ended net q t ≡ b → elim b as (λ b. State) [ true ↦ t | false ↦ runs net q (left net q t) t ] ≡ run net q
    whole b h = sym (ap (λ n. runs net q n s) split ∙ after b h) ∙ r.rest

    pub running-last : ended net q t ≡ true → t ≡ run net q
    running-last h = whole true h

    pub running-next : ended net q t ≡ false → Running net q t
    running-next h =
        record { underway = underway-next net q sound chooses s r.underway h; rest = whole false h }

-- The test of the loads that the program makes is the definition's.
pub ended_is :
    (net : Network) (q : ℕ) (s : State) (mark : ℕ) → length s.loads ≡ resources net → mark ≡ threshold (resources net) q →
    exists (length s.loads) (λ e. leb (mark * get_or (resource_capacities net) e 0) (get_or s.loads e 0)) ≡ ended net q s
unfolding ended
ended_is net q s mark h e = rw (h, e) refl
