-- Laws of powers: a product and a power raised to a power, and what a comparison of powers says of the bases and exponents.
-- Assumes nothing.
use mathlib.Core.Path.{◌≡◌, ap}
use Prim.Native.Nat.{ℕ, zero, suc, ◌+◌, ◌*◌, ◌^◌, ◌≤◌, ◌<◌}
use native.Mathlib.Nat.{pow-zero, pow-suc, one-le-pow, mul-zero, mul-suc, le_dest, lt_trans, mul-pos, mul-lt-mul_of_pos_left, pow-lt-pow_left, suc-ne-zero}
use native.Mathlib.Omega.{arith, by_contra}
use lib.Pow.{pow-add}

pub pow-one : (a : ℕ) → a ^ 1 ≡ a
pow-one a = omega (arith, pow-suc a 0, ap (λ t. t * a) (pow-zero a))

pub mul-pow : (a b n : ℕ) → (a * b) ^ n ≡ a ^ n * b ^ n
mul-pow a b zero = simp pow-zero
mul-pow a b (suc n) = simp pow-suc (omega (arith, ap (λ t. t * (a * b)) (mul-pow a b n)))

pub pow-mul : (a m n : ℕ) → a ^ (m * n) ≡ (a ^ m) ^ n
pow-mul a m zero = simp (mul-zero, pow-zero)
pow-mul a m (suc n) = simp (mul-suc, pow-suc, pow-add) (ap (λ t. t * a ^ m) (pow-mul a m n))

-- A power of a positive number is positive.
pub pow_pos : {a : ℕ} (n : ℕ) → 0 < a → 0 < a ^ n
pow_pos {a} n h = one-le-pow n a h

past : {q p : ℕ} (y d : ℕ) → 0 < q → q < p → p ^ (y + suc d) * q ^ y ≤ q ^ (y + suc d) * p ^ y → ⊥
past {q} {p} y d h l k =
    let k' : p ^ y * p ^ suc d * q ^ y ≤ q ^ y * q ^ suc d * p ^ y = rw (pow-add p, pow-add q) at k in
    omega (
      arith,
      mul-lt-mul_of_pos_left {k = p ^ y * q ^ y} (pow-lt-pow_left l (suc-ne-zero d)) (mul-pos (pow_pos y (lt_trans h l)) (pow_pos y h)),
    )

-- With the larger base over the smaller, the exponents compare as the powers do.
pub exponent-le : {q p : ℕ} (x y : ℕ) → 0 < q → q < p → p ^ x * q ^ y ≤ q ^ x * p ^ y → x ≤ y
exponent-le {q} {p} x y h l k =
    by_contra x y
    (λ (n : y < x). let d = le_dest n in let e : x ≡ y + suc d.0 = omega (arith, d.1) in past y d.0 h l (rw e at k))
