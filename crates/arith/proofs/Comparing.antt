-- Two lists of limbs compared from the top: the highest place at which they differ decides which writes less.
-- Assumes nothing.
use mathlib.Core.Path.{◌≡◌, refl, sym, ap}
use mathlib.Core.Bool.{Bool, true, false}
use mathlib.Core.List.{List}
use Prim.Native.Nat.{ℕ, suc, ◌+◌, ◌*◌, ◌^◌}
use native.Mathlib.Omega.{arith}
use borrow.Author.Tests.{ltb-true, ltb-false, lt-ltb, le-ltb}
use lib.Arith.{lt_of_le-ne}
use lib.Dec.{ltb}
use lib.ListN.{get_or, take}
use Rattle.arith.specs.Limbs.{base, from_limbs, Limbs}
use Rattle.arith.proofs.Values.{value-take, top-limb-decides}

-- From place i up the two write the same.
pub record Level (xs ys : List ℕ) (i : ℕ) : Type 0 where
  pub same : from_limbs xs + from_limbs (take i ys) ≡ from_limbs ys + from_limbs (take i xs)

module _ {xs ys : List ℕ} where
  pub level-step : {i : ℕ} → Level xs ys (suc i) → get_or xs i 0 ≡ get_or ys i 0 → Level xs ys i
  level-step {i} l e =
      record { same = omega (arith, l.same, value-take xs i, value-take ys i, ap (λ t. base ^ i * t) e) }

  module _ {n i : ℕ} (lx : Limbs n xs) (ly : Limbs n ys) (l : Level xs ys (suc i)) (d : get_or xs i 0 ≡ get_or ys i 0 → ⊥) where
    decided : (b : Bool) → ltb (get_or xs i 0) (get_or ys i 0) ≡ b → b ≡ ltb (from_limbs xs) (from_limbs ys)
    decided true e = sym (lt-ltb (from_limbs xs) (from_limbs ys) (omega (arith, l.same, top-limb-decides xs lx ys i (ltb-true _ _ e))))
    decided false e =
        sym (le-ltb (from_limbs xs) (from_limbs ys) (omega (arith, l.same, top-limb-decides ys ly xs i (lt_of_le-ne (ltb-false _ _ e) (λ q. d (sym q))))))

    -- The highest limbs that differ decide.
    pub level-decides : ltb (get_or xs i 0) (get_or ys i 0) ≡ ltb (from_limbs xs) (from_limbs ys)
    level-decides = decided (ltb (get_or xs i 0) (get_or ys i 0)) refl
