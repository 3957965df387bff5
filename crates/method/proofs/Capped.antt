-- The least value over a list, with a cap: at most the cap and every value, and the greatest number that is.
-- Assumes nothing.
use mathlib.Core.Path.{◌≡◌, refl}
use mathlib.Core.Logic.{⊎_elim}
use mathlib.Core.List.Memᴰ
use mathlib.Core.List.{List, [], ◌∷◌, Memᴰ}
use Prim.Native.Nat.{ℕ, ◌≤◌, min}
use native.Mathlib.Nat.{le_refl}
use native.Mathlib.Omega.{arith}

module _ {A : Type 0} (cap : ℕ) (f : A → ℕ) where
  -- the least of the cap and f x for the members x of a list
  pub capped : List A → ℕ
  capped [] = cap
  capped (x ∷ xs) = min (f x) (capped xs)

  pub capped-cap : (xs : List A) → capped xs ≤ cap
  unfolding capped
  capped-cap [] = le_refl cap
  capped-cap (x ∷ xs) = omega (arith, capped-cap xs)

  pub capped-member : {x : A} (xs : List A) → Memᴰ x xs → capped xs ≤ f x
  unfolding capped
  capped-member [] m = absurd (Memᴰ.not-nil m)
  capped-member {x} (a ∷ xs) m =
      ⊎_elim (λ (e : x ≡ a). rw e (omega arith)) (λ n. omega (arith, capped-member xs n)) (Memᴰ.cases_cons m)

  pub capped-greatest : (k : ℕ) (xs : List A) → k ≤ cap → ((x : A) → Memᴰ x xs → k ≤ f x) → k ≤ capped xs
  unfolding capped
  capped-greatest k [] top all = top
  capped-greatest k (x ∷ xs) top all =
      omega (arith, all x (Memᴰ.head refl), capped-greatest k xs top (λ a n. all a (Memᴰ.tail n)))
