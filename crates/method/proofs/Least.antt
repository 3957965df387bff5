-- The first member of least value, as a relation: which member it is, that none is smaller, and that those that stand earlier are greater.
-- Assumes nothing.
use mathlib.Core.Path.{◌≡◌, refl, ap}
use mathlib.Core.Logic.{⊎_elim}
use mathlib.Core.Bool.{Bool, true, false, cond}
use mathlib.Core.Option.{Option, none, some, none-ne-some, some-ne-none, some-injective}
use mathlib.Core.List.{List, [], ◌∷◌}
use Prim.Native.Nat.{ℕ, ◌≤◌, ◌<◌}
use native.Mathlib.Omega.{arith}
use lib.Dec.{leb}
use borrow.Author.Tests.{leb-true, leb-false}
use Rattle.arith.specs.Member.{Member, first, later, no_member, first-or-later}
use Rattle.arith.proofs.Sorted.{Sorted, empty, before}
use Rattle.method.specs.Choice.{sooner, least}

module _ {A : Type 0} (f : A → ℕ) where
  -- y is the first of least f in the list: all later ones are no smaller, or the first is greater and y is first of the rest.
  pub data First : List A → A → Type 0 where
    here : {x : A} {xs : List A} → ((z : A) → Member z xs → f x ≤ f z) → First (x ∷ xs) x
    there : {x y : A} {xs : List A} → f y < f x → First xs y → First (x ∷ xs) y

module _ {A : Type 0} {f : A → ℕ} where
  pub first_member : {xs : List A} {y : A} → First f xs y → Member y xs
  first_member (here h) = first refl
  first_member (there l r) = later (first_member r)

  -- No member is smaller.
  pub first-le : {xs : List A} {y : A} → First f xs y → (z : A) → Member z xs → f y ≤ f z
  first-le {y} (here {xs = zs} h) z m = ⊎_elim (λ (e : z ≡ y). omega (arith, ap f e)) (λ (r : Member z zs). h z r) (first-or-later m)
  first-le (there {x = x} {xs = zs} l k) z m =
      ⊎_elim (λ (e : z ≡ x). omega (arith, ap f e)) (λ (r : Member z zs). first-le k z r) (first-or-later m)

  -- In a list in order, a member that is before y is greater.
  pub first-lt :
      {R : A → A → Type 0} → ((x y : A) → R x y → R y x → ⊥) → {xs : List A} {y : A} → Sorted R xs → First f xs y → (z : A) → Member z xs →
      R z y → f y < f z
  first-lt {R} anti {y} (before s t) (here {xs = zs} h) z m b =
      ⊎_elim
      (λ (e : z ≡ y). absurd (anti y y (rw e at b) (rw e at b)))
      (λ (r : Member z zs). absurd (anti z y b (s z r)))
      (first-or-later m)
  first-lt anti empty h z m b = elim h [ ]
  first-lt anti (before s t) (there {x = x} {xs = zs} l k) z m b =
      ⊎_elim (λ (e : z ≡ x). omega (arith, ap f e)) (λ (r : Member z zs). first-lt anti t k z r b) (first-or-later m)

module _ {A : Type 0} (f : A → ℕ) where
  pub least-none : (xs : List A) → least f xs ≡ none → xs ≡ []
  unfolding least
  least-none [] h = refl
  least-none (x ∷ xs) h = absurd (some-ne-none (sooner f x (least f xs)) h)

  -- one member more in front, by the comparison with the first of the rest
  in-front : (x z : A) (xs : List A) (b : Bool) → leb (f x) (f z) ≡ b → First f xs z → First f (x ∷ xs) (cond b x z)
  in-front x z xs true e r = here {x = x} {xs = xs} (λ w m. omega (arith, leb-true (f x) (f z) e, first-le r w m))
  in-front x z xs false e r = there (leb-false (f x) (f z) e) r

  sooner-first :
      (x : A) (xs : List A) (o : Option A) → (o ≡ none → xs ≡ []) → ((z : A) → o ≡ some z → First f xs z) →
      First f (x ∷ xs) (sooner f x o)
  unfolding sooner
  sooner-first x xs none h g = rw (h refl) (here (λ z m. absurd (no_member m)))
  sooner-first x xs (some z) h g = in-front x z xs (leb (f x) (f z)) refl (g z refl)

  -- What least finds is the first of least f.
  pub least_first : (xs : List A) (y : A) → least f xs ≡ some y → First f xs y
  unfolding least
  least_first [] y h = absurd (none-ne-some y h)
  least_first (x ∷ xs) y h =
      rw
      (some-injective (sooner f x (least f xs)) y h)
      at
      (sooner-first x xs (least f xs) (least-none xs) (least_first xs))

  -- It finds something wherever there is something.
  pub least-some : (xs : List A) (z : A) → Member z xs → (y : A) × (least f xs ≡ some y)
  unfolding least
  least-some [] z m = absurd (no_member m)
  least-some (x ∷ xs) z m = (sooner f x (least f xs), refl)
