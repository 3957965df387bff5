-- The upper side: a step raises the volume by little more than what its draw is worth
-- (docs/GUARANTEE.md, "The argument", step 5). Assumes nothing.
use mathlib.Core.Path.{◌≡◌}
use Prim.Native.Nat.{ℕ, suc, ◌+◌, ◌*◌, ◌^◌, ◌≤◌, ◌<◌}
use native.Mathlib.Nat.{pow-zero, pow-suc, pow-le-pow_left, mul-pos, mul-le-mul_left, mul-le-mul_right}
use native.Mathlib.Omega.{arith}
use Rattle.arith.specs.Sum.{sum}
use Rattle.arith.proofs.Powers.{pow_pos}
use Rattle.arith.proofs.Sums.{sum-le, sum-add, sum-scale}
use Rattle.packing.proofs.PowerAtMost.{PowerAtMost, product, weaken}
use Rattle.packing.proofs.Growth.{one-growth}
use Rattle.packing.proofs.Run.{volume}
use Rattle.packing.proofs.Step.{Step}

-- The volume after a step, from the bounds on its lengths.
pub volume-high : {m q : ℕ} {c l y l' : ℕ → ℕ} → (s : Step m q c l y l') →
    s.factor * q * volume m c l' ≤ q * volume m c l + sum m (λ e. y e * l e) + 2 * q * sum m c
volume-high {m} {q} {c} {l} {y} {l'} s =
    omega (
      arith,
      sum-le m (λ e. s.factor * q * (c e * l' e)) (λ e. q * (c e * l e) + y e * l e + 2 * q * c e) (λ e b. omega (arith, s.high e b)),
      sum-scale m (s.factor * q) (λ e. c e * l' e),
      sum-add m (λ e. q * (c e * l e) + y e * l e) (λ e. 2 * q * c e),
      sum-add m (λ e. q * (c e * l e)) (λ e. y e * l e),
      sum-scale m q (λ e. c e * l e),
      sum-scale m (2 * q) c,
    )

-- in terms of the least fraction b / x, over R = 2 ^ 20 as a variable
upper-rise : (f q D D' g a C b x R : ℕ) → f * q * D' ≤ q * D + g * a + 2 * q * C → b * a ≤ D * x → 2 * R * C ≤ D →
    f * D' * (q * b) * R ≤ D * (q * b + x * g) * suc R
upper-rise f q D D' g a C b x R h k l =
    omega (arith, mul-le-mul_right (b * R) h, mul-le-mul_left (g * R) k, mul-le-mul_left (q * b) l)

-- u and z are the powers of R and suc R so far, v the volume of the start
upper-algebra : (w f D D' N a R u v z : ℕ) → f * D' * N * R ≤ D * (N + a) * suc R →
    w * f * D' * (u * R) * (v * z * N) ≤ w * D * u * (N + a) * (v * (z * suc R))
upper-algebra w f D D' N a R u v z h = omega (arith, mul-le-mul_right (w * u * v * z) h)

-- the start, with nothing drawn
pub upper-start : (q x u v : ℕ) {y : ℕ} → u ≤ v → PowerAtMost q (q + 1) u v ((8 * q + 5) * (x * 0)) y
upper-start q x u v {y} h =
    let e : (8 * q + 5) * (x * 0) ≡ 0 = omega arith in
    record { le = rw e (simp pow-zero (omega (arith, pow-le-pow_left h y))) }

-- t iterations before, F drawn before, S the volume that the start is compared with
pub upper-step : (R S q w f D D' g a C b x t F : ℕ) → 4 ≤ q → q ≤ 16 → 0 < b → 0 < S →
    f * q * D' ≤ q * D + g * a + 2 * q * C → b * a ≤ D * x → 2 * R * C ≤ D →
    PowerAtMost q (q + 1) (w * D * R ^ suc t) (S * suc R ^ suc t) ((8 * q + 5) * (x * F)) (8 * (q * b)) →
    PowerAtMost q (q + 1) (w * f * D' * R ^ suc (suc t)) (S * suc R ^ suc (suc t)) ((8 * q + 5) * (x * (F + g))) (8 * (q * b))
upper-step R S q w f D D' g a C b x t F lo hi pb pS h k l before =
    let pN : 0 < q * b = mul-pos (omega arith) pb in
    let e : (8 * q + 5) * (x * (F + g)) ≡ (8 * q + 5) * (x * F) + (8 * q + 5) * (x * g) = omega arith in
    rw (e, pow-suc R (suc t), pow-suc (suc R) (suc t))
    (weaken (upper-algebra w f D D' (q * b) (x * g) R (R ^ suc t) S (suc R ^ suc t) (upper-rise f q D D' g a C b x R h k l))
    (mul-pos (mul-pos pS (pow_pos (suc t) (omega arith))) pN)
    (product before (one-growth q (q * b) (x * g) lo hi pN)))
