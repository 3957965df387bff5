-- What the roundings of at most m * T iterations cost, together with the m of the start: `slack` of
-- docs/GUARANTEE.md, "The argument", step 2. Assumes nothing.
use mathlib.Core.Path.{◌≡◌}
use Prim.Native.Nat.{ℕ, zero, suc, ◌+◌, ◌*◌, ◌-◌, ◌^◌, ◌≤◌, ◌<◌}
use native.Mathlib.Nat.{pow-zero, pow-suc, le_trans, mul-le-mul_left, mul-le-mul_right}
use native.Mathlib.Omega.{arith}
use Rattle.arith.proofs.Powers.{pow-one}
use Rattle.packing.proofs.PowerAtMost.{PowerAtMost, product, scale, weaken}
use Rattle.packing.proofs.Program.{Program}

-- u and v are the powers to n of suc r and r
down_step : (r d k u v : ℕ) → d ≤ r → u * suc d ≤ v * k → u * suc r * d ≤ v * r * k
down_step r d k u v h l = le_trans {m = u * suc d * r} (omega (arith, mul-le-mul_left u h)) (omega (arith, mul-le-mul_right r l))

-- Bernoulli's inequality for a power that falls.
down : (r n d k : ℕ) → d + n ≤ k → k ≤ suc r → suc r ^ n * d ≤ r ^ n * k
down r zero d k h l = simp pow-zero (omega arith)
down r (suc n) d k h l = simp pow-suc (down_step r d k (suc r ^ n) (r ^ n) (omega arith) (down r n (suc d) k (omega arith) l))

-- over R = 2 ^ 20 as a variable, with u and v for the powers to t
rounds : (m r d u v : ℕ) → u * d ≤ v * r → m * (u * suc r) * d ≤ m * suc r * (v * r)
rounds m r d u v h = omega (arith, mul-le-mul_right (m * suc r) h)

slack-at : (m q L R d t : ℕ) → 0 < d → d + t ≤ R → PowerAtMost q (q + 1) m 1 L 1 → PowerAtMost q (q + 1) (suc R) d L 8 →
    PowerAtMost q (q + 1) (m * suc R ^ suc t) (R ^ suc t) (L * 9) 8
slack-at m q L R d t p h start each =
    let both : PowerAtMost q (q + 1) (m * suc R) (1 * d) (L * 8 + L) 8 = product (scale 8 start) each in
    let e : L * 8 + L ≡ L * 9 = omega arith in
    let o : 1 * d ≡ d = omega arith in
    weaken (simp pow-suc (rounds m R d (suc R ^ t) (R ^ t) (down R t d R h (omega arith)))) p (rw (e, o) at both)

-- m * (1 + 1 / 2 ^ 20) ^ (t + 1) is at most (1 + 1 / q) ^ (9 * L / 8) after t iterations.
pub slack : {m q L : ℕ} {c : ℕ → ℕ} → Program m q L c → (t : ℕ) → t ≤ m * (q * L) →
    PowerAtMost q (q + 1) (m * (2 ^ 20 + 1) ^ suc t) ((2 ^ 20) ^ suc t) (L * 9) 8
slack {m} {q} {L} p t h =
    slack-at m q L (2 ^ 20) (2 ^ 20 - m * q * L) t (omega (arith, p.room)) (omega (arith, p.room))
    (record { le = simp (pow-one) (omega (arith, p.enough)) }) (record { le = p.slack })
