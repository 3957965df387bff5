-- Lists in the order of a relation, and what keeps them so: a test, a map that keeps the order, lists one after the other.
-- Assumes nothing.
use mathlib.Core.Path.{refl, subst}
use mathlib.Core.Logic.{⊎_elim}
use mathlib.Core.Bool.{Bool, true, false, cond}
use mathlib.Core.List.{List, [], ◌∷◌, ◌++◌, map}
use Prim.Native.Nat.{ℕ, zero, suc, ◌<◌}
use native.Mathlib.Omega.{arith}
use Rattle.arith.specs.Lists.{up_from, up_to, flat, keep}
use Rattle.arith.specs.Member.{Member, first, later, left-or-right, member_right, member-map}
use Rattle.arith.proofs.Members.{member-flat, member-keep}
use Rattle.arith.proofs.Ranges.{member-up_from}

module _ {A : Type 0} (R : A → A → Type 0) where
  -- Each member is before every member that stands later.
  pub data Sorted : List A → Type 0 where
    empty : Sorted []
    before : {x : A} {xs : List A} → ((y : A) → Member y xs → R x y) → Sorted xs → Sorted (x ∷ xs)

module _ {A : Type 0} {R : A → A → Type 0} where
  -- Of two members the one that stands earlier is before the other.
  pub sorted-earlier : (xs ys zs : List A) (x y : A) → Sorted R (xs ++ x ∷ (ys ++ y ∷ zs)) → R x y
  sorted-earlier [] ys zs x y (before h s) = h y (member_right ys (first refl))
  sorted-earlier (w ∷ xs) ys zs x y (before h s) = sorted-earlier xs ys zs x y s

  pub sorted-append :
      {xs ys : List A} → Sorted R xs → Sorted R ys → ((x y : A) → Member x xs → Member y ys → R x y) → Sorted R (xs ++ ys)
  sorted-append empty t h = t
  sorted-append {ys} (before {x = z} {xs = zs} g s) t h =
      before
      (λ y m. ⊎_elim (λ (m : Member y zs). g y m) (λ (m : Member y ys). h z y (first refl) m) (left-or-right zs m))
      (sorted-append s t (λ x y m n. h x y (later m) n))

  pub sorted-keep : (f : A → Bool) {xs : List A} → Sorted R xs → Sorted R (keep f xs)
  unfolding keep
  sorted-keep f empty = empty
  sorted-keep f (before {x = z} {xs = zs} h s) = by-test (f z) (sorted-keep f s)
    where
      by-test : (b : Bool) → Sorted R (keep f zs) → Sorted R (cond b (z ∷ keep f zs) (keep f zs))
      by-test true t = before (λ y m. h y (member-keep f zs m).0) t
      by-test false t = t

module _ {A B : Type 0} {R : A → A → Type 0} {S : B → B → Type 0} where
  pub sorted-map : (f : A → B) → ((x y : A) → R x y → S (f x) (f y)) → {xs : List A} → Sorted R xs → Sorted S (map f xs)
  sorted-map f h empty = empty
  sorted-map f h (before {x = z} {xs = zs} g s) =
      before (λ y m. let t = member-map f zs m in subst (S (f z)) t.2 (h z t.0 (g t.0 t.1))) (sorted-map f h s)

  -- Lists in order, one after the other, are in order where the members of an earlier one are before those of a later one.
  pub sorted-flat :
      (f : A → List B) → ((x : A) → Sorted S (f x)) → ((x y : A) (a b : B) → R x y → Member a (f x) → Member b (f y) → S a b) → {xs : List A} →
      Sorted R xs → Sorted S (flat f xs)
  unfolding flat
  sorted-flat f h g empty = empty
  sorted-flat f h g (before {x = z} {xs = zs} k s) =
      sorted-append (h z) (sorted-flat f h g s) (λ a b m n. let t = member-flat f zs n in g z t.0 a b (k t.0 t.1) m t.2)

pub sorted-up_from : (i n : ℕ) → Sorted ◌<◌ (up_from i n)
unfolding up_from
sorted-up_from i zero = empty
sorted-up_from i (suc n) = before {x = i} {xs = up_from (suc i) n} (λ y m. omega (arith, member-up_from y (suc i) n m)) (sorted-up_from (suc i) n)

pub sorted-up_to : (n : ℕ) → Sorted ◌<◌ (up_to n)
unfolding up_to
sorted-up_to n = sorted-up_from 0 n
