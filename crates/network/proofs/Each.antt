-- A property of each member of a list: of two lists together, and of the lists of the items 0, .., m - 1 one after the other.
-- Assumes nothing.
use mathlib.Core.Path.{◌≡◌}
use mathlib.Core.List.{List, [], ◌∷◌, ◌++◌}
use mathlib.Core.Logic.{⊎_elim}
use Prim.Native.Nat.{ℕ, zero, suc, ◌+◌, ◌≤◌, ◌<◌}
use native.Mathlib.Nat.{eq-or-lt_of_le}
use native.Mathlib.Omega.{arith}
use Rattle.arith.specs.Lists.{up_from, up_to, flat}

-- Each member of the list has the property P.
pub data Each {A : Type 0} (P : A → Type 0) : List A → Type 0 where
  none : Each P []
  more : {x : A} {xs : List A} → P x → Each P xs → Each P (x ∷ xs)

module _ {A : Type 0} {P : A → Type 0} where
  pub each_append : {xs ys : List A} → Each P xs → Each P ys → Each P (xs ++ ys)
  each_append none es = es
  each_append (more d ds) es = more d (each_append ds es)

  pub each_left : (xs ys : List A) → Each P (xs ++ ys) → Each P xs
  each_left [] ys es = none
  each_left (x ∷ xs) ys (more d ds) = more d (each_left xs ys ds)

  pub each_right : (xs : List A) {ys : List A} → Each P (xs ++ ys) → Each P ys
  each_right [] es = es
  each_right (x ∷ xs) (more d ds) = each_right xs ds

  from : (f : ℕ → List A) (i n : ℕ) → ((e : ℕ) → i ≤ e → e < i + n → Each P (f e)) → Each P (flat f (up_from i n))
  unfolding flat up_from
  from f i zero h = none
  from f i (suc n) h = each_append (h i (omega arith) (omega arith)) (from f (suc i) n (λ e l b. h e (omega arith) (omega arith)))

  at : (f : ℕ → List A) (i n : ℕ) → Each P (flat f (up_from i n)) → (e : ℕ) → i ≤ e → e < i + n → Each P (f e)
  unfolding flat up_from
  at f i zero es e l b = let no : ⊥ = omega arith in elim no [ ]
  at f i (suc n) es e l b =
      ⊎_elim
      (λ (p : i ≡ e). rw (← p) (each_left (f i) _ es))
      (λ (p : i < e). at f (suc i) n (each_right (f i) es) e p (omega arith))
      (eq-or-lt_of_le l)

  pub each-flat : (f : ℕ → List A) (m : ℕ) → ((e : ℕ) → e < m → Each P (f e)) → Each P (flat f (up_to m))
  unfolding up_to
  each-flat f m h = from f 0 m (λ e l b. h e (omega arith))

  pub each_item : (f : ℕ → List A) (m : ℕ) → Each P (flat f (up_to m)) → (e : ℕ) → e < m → Each P (f e)
  unfolding up_to
  each_item f m es e b = at f 0 m es e (omega arith) (omega arith)
