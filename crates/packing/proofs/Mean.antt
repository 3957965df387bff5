-- The mean of powers: a product of i factors x and j factors y is at most the power of their mean.
-- `load` and `euler` of docs/GUARANTEE.md, "The argument", step 2, are instances. Assumes nothing.
use mathlib.Core.Path.{◌≡◌, refl}
use Prim.Native.Nat.{ℕ, zero, suc, ◌+◌, ◌*◌, ◌^◌, ◌≤◌, ◌<◌}
use native.Mathlib.Nat.{pow-zero, pow-suc, mul-le-mul_left, mul-le-mul_right, le_of_mul-le-mul_left, le_refl, le_trans, zero-lt-suc}
use native.Mathlib.Omega.{arith}
use Rattle.arith.proofs.Powers.{mul-pow, pow-one, pow_pos}

-- the tangent of a square
square : (x y : ℕ) → 2 * (x * y) ≤ x * x + y * y
square zero y = omega arith
square (suc x) zero = omega arith
square (suc x) (suc y) = omega (arith, square x y)

-- one step of `tangent`, over powers as plain numbers: w is y ^ n and z is x ^ suc n
tangent-step : (n x y w z : ℕ) → suc n * (x * w) ≤ z + n * (w * y) → suc (suc n) * (x * (w * y)) ≤ z * x + suc n * (w * y * y)
tangent-step n x y w z h = omega (arith, mul-le-mul_right x h, mul-le-mul_left (suc n * w) (square x y))

-- The tangent of a power lies below it.
pub tangent : (n x y : ℕ) → suc n * (x * y ^ n) ≤ x ^ suc n + n * y ^ suc n
tangent zero x y = simp (pow-one, pow-zero) (omega arith)
tangent (suc n) x y = simp pow-suc (tangent-step n x y (y ^ n) (x ^ n * x) (simp pow-suc at (tangent n x y)))

-- One more factor y, with p, r, a, z for the powers of suc k, t, k, t + y
rise-step : (k t y p r a z : ℕ) → 0 < k → suc k * (k * (t + y) * (p * r)) ≤ a * z * (k * (t + y)) + k * (p * r * (suc k * t)) →
    p * suc k * (r * y) ≤ a * (z * (t + y))
rise-step k t y p r a z h l = le_of_mul-le-mul_left {k = k} (omega arith) h

rise-pos : (k t y : ℕ) → 0 < k → suc k ^ suc k * (t ^ k * y) ≤ k ^ k * (t + y) ^ suc k
rise-pos k t y h =
    simp pow-suc
    (rise-step k t y (suc k ^ k) (t ^ k) (k ^ k) ((t + y) ^ k) h
    (omega (arith, simp (pow-suc, mul-pow) at (tangent k (k * (t + y)) (suc k * t)))))

rise : (k t y : ℕ) → suc k ^ suc k * (t ^ k * y) ≤ k ^ k * (t + y) ^ suc k
rise zero t y = simp (pow-one, pow-zero) (omega arith)
rise (suc k) t y = rise-pos (suc k) t y (zero-lt-suc k)

-- of 0 too
self-pos : (k : ℕ) → 0 < k ^ k
self-pos zero = simp pow-zero (le_refl 1)
self-pos (suc k) = pow_pos (suc k) (zero-lt-suc k)

-- u is x ^ i * y ^ j, the others are powers of k, suc k, t, t + y
mean-step : (u y kk ss tt zz : ℕ) → 0 < kk → u * kk ≤ tt → ss * (tt * y) ≤ kk * zz → u * y * ss ≤ zz
mean-step u y kk ss tt zz p h l = le_of_mul-le-mul_left {k = kk} (le_trans {m = ss * (tt * y)} (omega (arith, mul-le-mul_right (ss * y) h)) l) p

-- over n = i + j and s = i * x + j * y, however they are written
mean-at : (i j x y n s : ℕ) → n ≡ i + j → s ≡ i * x + j * y → x ^ i * y ^ j * n ^ n ≤ s ^ n
mean-at i zero x y n s e f =
    let e' : n ≡ i = omega arith in
    let f' : s ≡ i * x = omega arith in
    rw (e', f') (simp (mul-pow, pow-zero) (omega arith))
mean-at i (suc j) x y n s e f =
    let e' : n ≡ suc (i + j) = omega arith in
    let f' : s ≡ i * x + j * y + y = omega arith in
    rw (e', f')
    (rw (pow-suc y j)
    (let h = mean-step (x ^ i * y ^ j) y ((i + j) ^ (i + j)) (suc (i + j) ^ suc (i + j)) ((i * x + j * y) ^ (i + j)) ((i * x + j * y + y) ^ suc (i + j))
    (self-pos (i + j)) (mean-at i j x y (i + j) (i * x + j * y) refl refl) (rise (i + j) (i * x + j * y) y)
    in omega arith))

-- The mean of i numbers x and j numbers y, to the power i + j, is at least their product.
pub mean : (i j x y : ℕ) → x ^ i * y ^ j * (i + j) ^ (i + j) ≤ (i * x + j * y) ^ (i + j)
mean i j x y = mean-at i j x y (i + j) (i * x + j * y) refl refl
