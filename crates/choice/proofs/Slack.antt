-- Why the search among the commodities ends: where another sink has the least bound after a search, some bound has risen.
-- Assumes nothing.
use mathlib.Core.Path.{◌≡◌}
use mathlib.Core.Logic.{⊎_elim}
use mathlib.Core.List.{List}
use Prim.Native.Nat.{ℕ, ◌*◌, ◌-◌, ◌≤◌, ◌<◌}
use native.Mathlib.Nat.{eq-or-lt_of_le}
use native.Mathlib.Omega.{arith}
use lib.ListN.{get_or}
use Rattle.arith.specs.Sum.{sum}
use Rattle.arith.proofs.Sums.{sum_lt}
use Rattle.paths.specs.Far.{far_length}
use Rattle.memory.specs.Least.{Least}
use Rattle.memory.proofs.Leasts.{least-unique}

-- No bound is above this: the cap with the length of a source, which is less.
abbrev pub most : ℕ
most = 2 * far_length

-- How far the first k bounds are below it, in all.
unfoldable pub slack : ℕ → List ℕ → ℕ
slack k bounds = sum k (λ i. most - get_or bounds i 0)

module _ {old new : List ℕ} {k i : ℕ} (L : Least old k i) (rise : (j : ℕ) → j < k → get_or old j 0 ≤ get_or new j 0) where
  -- A least bound that has not risen is still the lowest of the least.
  still-least : get_or old i 0 ≡ get_or new i 0 → Least new k i
  still-least q =
      record {
        among = L.among;
        least = λ j b. omega (arith, L.least j b, rise j b);
        lowest = λ j b. omega (arith, L.lowest j b, rise j (omega (arith, L.among)));
      }

  -- Where the lowest of the least is another, it has risen.
  pub least-rises : {j : ℕ} → Least new k j → (j ≡ i → ⊥) → get_or old i 0 < get_or new i 0
  least-rises J apart =
      ⊎_elim
      (λ (q : get_or old i 0 ≡ get_or new i 0). absurd (apart (least-unique J (still-least q))))
      (λ (b : get_or old i 0 < get_or new i 0). b)
      (eq-or-lt_of_le (rise i L.among))

  pub slack-falls :
      {j : ℕ} → Least new k j → (j ≡ i → ⊥) → ((x : ℕ) → x < k → get_or new x 0 ≤ most) → slack k new < slack k old
  unfolding slack
  slack-falls J apart capped =
      sum_lt k (λ x. most - get_or new x 0) (λ x. most - get_or old x 0) i L.among (λ x b. omega (arith, rise x b))
      (omega (arith, least-rises J apart, capped i L.among))
