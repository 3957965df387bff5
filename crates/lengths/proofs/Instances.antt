-- What the steps of the lengths ask can be met: one arc of capacity 5 and length 7, a path of that arc, a draw of 5 at precision 4.
-- Assumes nothing.
use mathlib.Core.Path.{refl}
use mathlib.Core.Bool.{Bool, true, false, cond}
use mathlib.Core.List.{[], ◌∷◌}
use Prim.Native.Nat.{ℕ, ◌+◌, ◌≤◌, ◌<◌}
use native.Mathlib.Omega.{arith}
use lib.Dec.{eqb}
use lib.ListN.{length, get_or}
use Rattle.arith.specs.Times.{times}
use Rattle.tables.proofs.Instances.{alone, some-capacity}
use Rattle.lengths.specs.Calls.{Capacities, Startable, Growing, Settling}

at_most_one : (b : Bool) → cond b 1 0 + 0 ≤ 1
at_most_one true = omega arith
at_most_one false = omega arith

one-arc : (e : ℕ) → times e (0 ∷ []) ≤ 1
unfolding times
one-arc e = at_most_one (eqb 0 e)

capacities : Capacities (5 ∷ [])
capacities = record { least = λ e l. omega (arith, alone (λ x. 1 ≤ x) 5 (omega arith) e l); most = some-capacity }

length-seven : (e : ℕ) → e < length {A = ℕ} (7 ∷ []) → get_or {A = ℕ} (7 ∷ []) e 0 ≤ 7
length-seven = alone (λ x. x ≤ 7) 7 (omega arith)

pub growing : Growing (7 ∷ []) (5 ∷ []) 4 5 (0 ∷ [])
growing =
    record {
      same = refl;
      coarsest = omega arith;
      finest = omega arith;
      places = alone (λ x. x < 1) 0 (omega arith);
      once = λ e. omega (arith, one-arc e);
      drawn = alone (λ x. 5 ≤ get_or (5 ∷ []) x 0) 0 (omega arith);
      few = omega arith;
      arcs = omega arith;
      sizes = capacities;
      short = λ e l. omega (arith, length-seven e l);
    }

pub startable : Startable (5 ∷ []) (7 ∷ [])
startable = record { same = refl; arcs = omega arith; sizes = capacities }

pub settling : Settling (5 ∷ []) (7 ∷ [])
settling = record { same = refl; arcs = omega arith; sizes = capacities.most; grown = λ e l. omega (arith, length-seven e l) }
