-- What writes a wide number: zeros, a store of a limb, and the two limbs of a number of 64 bits.
-- Assumes nothing.
use mathlib.Core.Path.{◌≡◌, refl, ◌∙◌}
use mathlib.Core.List.{List, ◌∷◌}
use Prim.Native.Nat.{ℕ, zero, suc, ◌/◌, ◌%◌, ◌<◌}
use native.Mathlib.Omega.{arith}
use lib.ListN.{set, replicate, length-set, length-replicate}
use Rattle.arith.specs.Limbs.{base, from_limbs, Limbs}
use Rattle.arith.proofs.Lists.{all_set, all_replicate}

pub limbs-zeros : (n : ℕ) → Limbs n (replicate n 0)
limbs-zeros n = record { size = length-replicate n 0; below = all_replicate (λ x. x < base) 0 n (omega arith) }

-- A store of a limb.
pub limbs-set : {n : ℕ} (xs : List ℕ) (i v : ℕ) → Limbs n xs → v < base → Limbs n (set xs i v)
limbs-set xs i v l h =
    record { size = length-set xs i v ∙ l.size; below = all_set (λ x. x < base) 0 xs i v l.below h }

value-zeros : (n : ℕ) → from_limbs (replicate n 0) ≡ 0
unfolding from_limbs
value-zeros zero = refl
value-zeros (suc n) = omega (arith, value-zeros n)

-- The remainder and the quotient by base are the two lowest limbs, and zeros above them change nothing.
pub value-two : (n x : ℕ) → from_limbs (x % base ∷ x / base ∷ replicate n 0) ≡ x
unfolding from_limbs
value-two n x = omega (arith, value-zeros n)
