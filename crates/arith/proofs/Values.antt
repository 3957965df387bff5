-- Laws of the number that limbs write: it grows limb by limb, n limbs write less than base ^ n, and the highest limb decides
-- which of two is less.
-- Assumes nothing.
use mathlib.Core.Path.{◌≡◌, ap, ◌∙◌}
use mathlib.Core.List.{List, [], ◌∷◌}
use Prim.Native.Nat.{ℕ, zero, suc, ◌+◌, ◌*◌, ◌^◌, ◌≤◌, ◌<◌}
use native.Mathlib.Nat.{pow-zero, pow-suc, le_refl, mul-le-mul_left}
use native.Mathlib.Omega.{arith}
use lib.ListN.{length, get_or, take, set}
use lib.Seq.{take-nil, take_all, take-set-le, get_or-set_same}
use Rattle.arith.specs.Limbs.{base, from_limbs, Limbs}

one_up : (x v p d : ℕ) {q : ℕ} → q ≡ p * base → x + base * (v + p * d) ≡ x + base * v + q * d
one_up x v p d e = rw e (omega arith)

-- One limb more adds it at its place; past the end it is 0.
pub value-take : (xs : List ℕ) (i : ℕ) → from_limbs (take (suc i) xs) ≡ from_limbs (take i xs) + base ^ i * get_or xs i 0
unfolding from_limbs
value-take [] i = rw take-nil (omega arith)
value-take (x ∷ xs) zero = omega (arith, pow-zero base)
value-take (x ∷ xs) (suc i) =
    ap (λ t. x + base * t) (value-take xs i) ∙ one_up x (from_limbs (take i xs)) (base ^ i) (get_or xs i 0) (pow-suc base i)

-- The same for a limb that is stored.
pub value_set : (xs : List ℕ) (i v : ℕ) → i < length xs → from_limbs (take (suc i) (set xs i v)) ≡ from_limbs (take i xs) + base ^ i * v
value_set xs i v h = rw (value-take, take-set-le i xs i v (le_refl i), get_or-set_same)

module _ {n : ℕ} (xs : List ℕ) (l : Limbs n xs) where
  -- n limbs are all of them.
  pub value-all : {i : ℕ} → n ≤ i → from_limbs (take i xs) ≡ from_limbs xs
  value-all {i} h = ap from_limbs (take_all i xs (omega (arith, l.size)))

  -- The lowest i limbs write less than base ^ i.
  pub value-take-below : (i : ℕ) → from_limbs (take i xs) < base ^ i
  unfolding from_limbs
  value-take-below zero = omega (arith, pow-zero base)
  value-take-below (suc i) =
      omega (arith, value-take xs i, value-take-below i, pow-suc base i, mul-le-mul_left (base ^ i) (l.below i))

  pub value-below : from_limbs xs < base ^ n
  value-below = rw (value-all (le_refl n)) at (value-take-below n)

  -- Where the highest limbs differ, they decide.
  pub top-limb-decides : (ys : List ℕ) (i : ℕ) → get_or xs i 0 < get_or ys i 0 → from_limbs (take (suc i) xs) < from_limbs (take (suc i) ys)
  top-limb-decides ys i h =
      omega (arith, value-take xs i, value-take ys i, value-take-below i, mul-le-mul_left (base ^ i) h)
