-- The lower side: the length of a resource, weighed by its capacity, shows its load
-- (docs/GUARANTEE.md, "The argument", step 4).
-- Rounding a length down would break exactly this. Assumes nothing.
use Prim.Native.Nat.{ℕ, ◌+◌, ◌*◌, ◌≤◌, ◌<◌}
use native.Mathlib.Nat.{pow-zero, pow-le-pow_left, mul-pos, mul-le-mul_right}
use native.Mathlib.Omega.{arith}
use Rattle.packing.proofs.PowerAtMost.{PowerAtMost, product, weaken}
use Rattle.packing.proofs.Load.{load}

-- b is q * c
lower-algebra : (S c w l l' f b y : ℕ) → l * (b + y) ≤ b * (f * l') → S * (c * (w * l) * (b + y)) ≤ S * b * (c * (w * f * l'))
lower-algebra S c w l l' f b y h = omega (arith, mul-le-mul_right (S * c * w) h)

-- the length v of the start, weighed by its capacity, is at least the scale S
pub lower-start : (q S v c : ℕ) → S ≤ v → PowerAtMost (q + 1) q S v 0 c
lower-start q S v c h = record { le = simp pow-zero (omega (arith, pow-le-pow_left h c)) }

-- one step by a draw y, with w for the weight before and f for the step's factor
pub lower-step : (q S c w l l' f y Y : ℕ) → 0 < q → 0 < c → 0 < w → 0 < l → y ≤ c → l * (q * c + y) ≤ q * c * (f * l') →
    PowerAtMost (q + 1) q S (c * (w * l)) Y c → PowerAtMost (q + 1) q S (c * (w * f * l')) (Y + y) c
lower-step q S c w l l' f y Y pq pc pw pl h k before =
    let pb : 0 < q * c = mul-pos pq pc in
    weaken (lower-algebra S c w l l' f (q * c) y k) (mul-pos (mul-pos pc (mul-pos pw pl)) (omega arith)) (product before (load q h))
