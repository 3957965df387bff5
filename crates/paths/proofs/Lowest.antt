-- The lowest number with a property that is decided for each: where some number has it, one is lowest.
-- Assumes nothing.
use mathlib.Core.Logic.{◌⊎◌, inl, inr, ⊎_elim}
use Prim.Native.Nat.{ℕ, zero, suc, ◌<◌}
use native.Mathlib.Nat.{le_refl}
use native.Mathlib.Omega.{arith}
use borrow.Author.Count.{below_more}

-- i has the property, and no lower number has.
pub record Lowest (P : ℕ → Type 0) (i : ℕ) : Type 0 where
  pub has : P i
  pub none-lower : (j : ℕ) → j < i → P j → ⊥

module _ (P : ℕ → Type 0) (decided : (i : ℕ) → P i ⊎ (P i → ⊥)) where
  -- the search through the numbers below n
  below : (n : ℕ) → ((i : ℕ) × Lowest P i) ⊎ ((j : ℕ) → j < n → P j → ⊥)
  below zero = inr (λ j b h. omega arith)
  below (suc n) = onward (below n) (decided n)
    where
      onward :
          ((i : ℕ) × Lowest P i) ⊎ ((j : ℕ) → j < n → P j → ⊥) → P n ⊎ (P n → ⊥) →
          ((i : ℕ) × Lowest P i) ⊎ ((j : ℕ) → j < suc n → P j → ⊥)
      onward (inl r) h = inl r
      onward (inr none) (inl h) = inl (n, record { has = h; none-lower = none })
      onward (inr none) (inr no-n) = inr (λ j b. below_more (λ j. P j → ⊥) n none no-n j (omega arith))

  -- From any number that has the property.
  pub lowest : (n : ℕ) → P n → (i : ℕ) × Lowest P i
  lowest n h =
      ⊎_elim
      (λ (r : (i : ℕ) × Lowest P i). r)
      (λ (none : (j : ℕ) → j < suc n → P j → ⊥). absurd (none n (le_refl (suc n)) h))
      (below (suc n))
