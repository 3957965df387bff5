-- Limbs one place up, where the number still fits: all at once, and one after the other.
-- Assumes nothing.
use mathlib.Core.Path.{◌≡◌, sym, ap, ◌∙◌}
use mathlib.Core.List.{List, [], ◌∷◌, ◌++◌, append-nil}
use Prim.Native.Nat.{ℕ, zero, suc, ◌+◌, ◌*◌, ◌^◌, ◌≤◌, ◌<◌}
use native.Mathlib.Nat.{pow-suc, le_refl, pow-le-pow_right, lt_of_lt_of_le}
use native.Mathlib.Omega.{arith}
use lib.ListN.{get_or, take, set, replicate}
use lib.Seq.{length-take-le}
use Rattle.arith.specs.Limbs.{base, width, limit, from_limbs, Limbs, Writes}
use Rattle.arith.proofs.Lists.{all_take}
use Rattle.arith.proofs.Values.{value-take, value_set, value-all}
use Rattle.arith.proofs.Writing.{limbs-set, limbs-zeros}

-- Where base times the number fits, the highest limb is 0, and nothing is lost.
top-zero : (n v p d q : ℕ) → n ≡ v + p * d → q ≡ p * base → base * n < q → v ≡ n
top-zero n v p zero q e f h = omega arith
top-zero n v p (suc d) q e f h = omega (arith, ap (λ t. base * t) e)

zero-below : (xs : List ℕ) → ((i : ℕ) → get_or xs i 0 < base) → (i : ℕ) → get_or (0 ∷ xs) i 0 < base
zero-below xs h zero = omega arith
zero-below xs h (suc i) = h i

-- A limb of 0, and on it all limbs but the highest.
pub shifted : (xs : List ℕ) → Limbs width xs → base * from_limbs xs < limit
    → Writes (0 ∷ (take 4 xs ++ [])) (base * from_limbs xs)
unfolding from_limbs limit
shifted xs l fits =
    let all = sym (value-all xs l (le_refl 5)) ∙ value-take xs 4 in
    let low : from_limbs (take 4 xs) ≡ from_limbs xs =
    top-zero (from_limbs xs) (from_limbs (take 4 xs)) (base ^ 4) (get_or xs 4 0) (base ^ 5) all (pow-suc base 4) fits in
    rw append-nil
    (record {
      limbs = record {
        size = omega (arith, length-take-le 4 xs (omega (arith, l.size)));
        below = zero-below _ (all_take (λ x. x < base) 0 4 xs l.below (omega arith));
      };
      number = omega (arith, low);
    })

-- After i limbs of xs: they stand in r, one place up.
pub record Shifted (xs r : List ℕ) (i : ℕ) : Type 0 where
  pub limbs : Limbs width r
  pub moved : from_limbs (take (suc i) r) ≡ base * from_limbs (take i xs)

pub shifted_start : (xs : List ℕ) → Shifted xs (replicate width 0) 0
unfolding from_limbs
shifted_start xs = record { limbs = limbs-zeros width; moved = omega arith }

pub shifted_step : {xs r : List ℕ} {i : ℕ} → Limbs width xs → suc i < width → Shifted xs r i → Shifted xs (set r (suc i) (get_or xs i 0)) (suc i)
shifted_step {xs} {r} {i} l h s =
    record {
      limbs = limbs-set r (suc i) (get_or xs i 0) s.limbs (l.below i);
      moved =
          rw (value_set r (suc i) (get_or xs i 0) (omega (arith, s.limbs.size)), value-take xs i, s.moved, pow-suc base i) (omega arith);
    }

pub shifted_end : {xs r : List ℕ} {i : ℕ} → Shifted xs r i → Limbs width xs → width ≤ suc i → base * from_limbs xs < limit → Writes r (base * from_limbs xs)
unfolding limit
shifted_end {xs} {r} {i} s l h fits =
    record {
      limbs = s.limbs;
      number =
          sym (value-all r s.limbs h) ∙ s.moved ∙ ap (λ t. base * t)
          (top-zero (from_limbs xs) (from_limbs (take i xs)) (base ^ i) (get_or xs i 0) (base ^ suc i)
          (sym (value-all xs l h) ∙ value-take xs i) (pow-suc base i)
          (lt_of_lt_of_le fits (pow-le-pow_right {n = base} (omega arith) h)));
    }
