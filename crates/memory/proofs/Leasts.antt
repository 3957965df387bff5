-- The least of the first numbers, with one number more; and there is only one lowest place of the least.
-- Assumes nothing.
use mathlib.Core.Path.{◌≡◌}
use mathlib.Core.List.{List}
use Prim.Native.Nat.{ℕ, ◌+◌, ◌≤◌, ◌<◌}
use native.Mathlib.Nat.{le_refl}
use native.Mathlib.Omega.{arith}
use borrow.Author.Count.{below_none, below_more}
use lib.ListN.{get_or}
use Rattle.arith.proofs.Order.{Compared, below, equal, above, compare}
use Rattle.memory.specs.Least.{Least}

-- The first number alone.
pub least_first : (xs : List ℕ) → Least xs 1 0
least_first xs =
    record {
      among = omega arith;
      least = below_more (λ j. get_or xs 0 0 ≤ get_or xs j 0) 0 (below_none (λ j. get_or xs 0 0 ≤ get_or xs j 0)) (le_refl (get_or xs 0 0));
      lowest = λ j b. absurd (omega arith);
    }

module _ {xs : List ℕ} {k r : ℕ} (L : Least xs k r) where
  -- The next number is less,
  pub least-less : get_or xs k 0 < get_or xs r 0 → Least xs (k + 1) k
  least-less b =
      record {
        among = omega arith;
        least = below_more (λ j. get_or xs k 0 ≤ get_or xs j 0) k (λ j c. omega (arith, L.least j c)) (le_refl (get_or xs k 0));
        lowest = λ j c. omega (arith, L.least j c);
      }

  -- or is not.
  pub least_other : get_or xs r 0 ≤ get_or xs k 0 → Least xs (k + 1) r
  least_other b =
      record {
        among = omega (arith, L.among);
        least = below_more (λ j. get_or xs r 0 ≤ get_or xs j 0) k L.least b;
        lowest = L.lowest;
      }

-- The same numbers have the same place of the least.
pub least-same : {xs ys : List ℕ} {k r : ℕ} → ((j : ℕ) → j < k → get_or ys j 0 ≡ get_or xs j 0) → Least xs k r → Least ys k r
least-same same L =
    record {
      among = L.among;
      least = λ j b. omega (arith, L.least j b, same j b, same _ L.among);
      lowest = λ j b. omega (arith, L.lowest j b, same j (omega (arith, L.among)), same _ L.among);
    }

pub least-unique : {xs : List ℕ} {k i j : ℕ} → Least xs k i → Least xs k j → i ≡ j
least-unique {i = i} {j = j} I J = by_order (compare i j)
  where
    by_order : Compared i j → i ≡ j
    by_order (below b) = absurd (omega (arith, J.lowest i b, I.least j J.among))
    by_order (equal q) = q
    by_order (above b) = absurd (omega (arith, I.lowest j b, J.least i I.among))
