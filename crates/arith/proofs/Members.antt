-- The members of lists one after the other, and of what a test keeps: exactly those that the words say. Membership of numbers is decided.
-- Assumes nothing.
use mathlib.Core.Path.{◌≡◌, refl, sym, ap, subst, ◌∙◌}
use mathlib.Core.Logic.{◌⊎◌, inl, inr, ⊎_elim}
use mathlib.Core.Bool.{Bool, true, false, cond}
use mathlib.Core.List.{List, [], ◌∷◌}
use Prim.Native.Nat.{ℕ}
use lib.Dec.{eqb}
use borrow.Author.Tests.{eqb-true, eqb-false}
use Rattle.arith.specs.Lists.{flat, keep}
use Rattle.arith.specs.Member.{Member, first, later, no_member, first-or-later, left-or-right, member-left, member_right}

-- A number is a member or not.
pub member-or-not : (x : ℕ) (xs : List ℕ) → Member x xs ⊎ (Member x xs → ⊥)
member-or-not x [] = inr no_member
member-or-not x (y ∷ xs) = by-test (eqb x y) refl (member-or-not x xs)
  where
    by-test : (b : Bool) → eqb x y ≡ b → Member x xs ⊎ (Member x xs → ⊥) → Member x (y ∷ xs) ⊎ (Member x (y ∷ xs) → ⊥)
    by-test true e d = inl (first (eqb-true x y e))
    by-test false e (inl m) = inl (later m)
    by-test false e (inr n) = inr (λ m. ⊎_elim (eqb-false x y e) n (first-or-later m))

module _ {A B : Type 0} (f : A → List B) where
  pub member-flat : {y : B} (xs : List A) → Member y (flat f xs) → (x : A) × Member x xs × Member y (f x)
  unfolding flat
  member-flat [] m = absurd (no_member m)
  member-flat {y} (x ∷ xs) m =
      ⊎_elim
      (λ (h : Member y (f x)). (x, first refl, h))
      (λ (r : Member y (flat f xs)). let t = member-flat xs r in (t.0, later t.1, t.2))
      (left-or-right (f x) m)

  pub flat-member : {x : A} {y : B} {xs : List A} → Member x xs → Member y (f x) → Member y (flat f xs)
  unfolding flat
  flat-member {y} (first e) h = member-left _ (subst (λ (z : A). Member y (f z)) e h)
  flat-member (later {x = z} m) h = member_right (f z) (flat-member m h)

module _ {A : Type 0} (f : A → Bool) where
  -- one step of member-keep, by the test's value
  kept :
      {x y : A} {xs ys : List A} (b : Bool) → f x ≡ b → (Member y ys → Member y xs × (f y ≡ true)) → Member y (cond b (x ∷ ys) ys) →
      Member y (x ∷ xs) × (f y ≡ true)
  kept {x} {y} {ys} true e h m =
      ⊎_elim (λ (q : y ≡ x). (first q, ap f q ∙ e)) (λ (r : Member y ys). let t = h r in (later t.0, t.1)) (first-or-later m)
  kept false e h m = let t = h m in (later t.0, t.1)

  pub member-keep : {y : A} (xs : List A) → Member y (keep f xs) → Member y xs × (f y ≡ true)
  unfolding keep
  member-keep [] m = absurd (no_member m)
  member-keep (x ∷ xs) m = kept (f x) refl (member-keep xs) m

  still : (x : A) {y : A} {ys : List A} (b : Bool) → Member y ys → Member y (cond b (x ∷ ys) ys)
  still x true m = later m
  still x false m = m

  pub keep-member : {y : A} {xs : List A} → Member y xs → f y ≡ true → Member y (keep f xs)
  unfolding keep
  keep-member (first e) h = rw (sym (ap f e) ∙ h) (first e)
  keep-member (later {x = z} m) h = still z (f z) (keep-member m h)
