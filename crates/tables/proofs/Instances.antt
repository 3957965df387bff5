-- What the steps ask can be met: one arc of capacity 5, a path of that arc, and a draw of 5.
-- Assumes nothing.
use mathlib.Core.Path.{refl}
use mathlib.Core.List.{[], ◌∷◌}
use Prim.Native.Nat.{ℕ, zero, suc, ◌^◌, ◌≤◌, ◌<◌}
use native.Mathlib.Nat.{le_of_suc-le-suc, not-suc-le-zero}
use native.Mathlib.Omega.{arith}
use lib.ListN.{length, get_or}
use Rattle.arith.specs.Lists.{exists}
use Rattle.bounds.specs.Bounds.{most_capacity}
use Rattle.tables.specs.Tables.{NoneAbove}
use Rattle.tables.specs.Calls.{Adding, Ending, Loading, Ranking}

-- What holds of x holds at every place of the list of x alone.
pub alone : (P : ℕ → Type 0) (x : ℕ) → P x → (j : ℕ) → j < length (x ∷ []) → P (get_or (x ∷ []) j 0)
alone P x p zero l = p
alone P x p (suc j) l = absurd (not-suc-le-zero (le_of_suc-le-suc l))

pub some-capacity : NoneAbove most_capacity (5 ∷ [])
some-capacity = alone (λ x. x ≤ most_capacity) 5 (omega arith)

pub adding : Adding (3 ∷ []) (0 ∷ []) 5
adding =
    record {
      places = alone (λ x. x < 1) 0 (omega arith);
      amounts = alone (λ x. x < 2 ^ 32) 3 (omega arith);
      small = omega arith;
      few = omega arith;
    }

pub ending : Ending (3 ∷ []) (5 ∷ []) 4
ending = record { same = refl; small = omega arith; sizes = some-capacity }

-- 3 is below 4 times 5.
pub loading : Loading (3 ∷ []) (5 ∷ []) 4 (0 ∷ []) 5
unfolding exists
loading = record { adding = adding; ending = ending; none = refl }

pub ranking : Ranking (3 ∷ []) (5 ∷ [])
ranking = record { some = omega arith; same = refl; amounts = alone (λ x. x < 2 ^ 32) 3 (omega arith); sizes = some-capacity }
