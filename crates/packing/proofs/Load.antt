-- `load` of docs/GUARANTEE.md, "The argument", step 2: a length that grows by the fraction
-- g / (q * c), to the power c, grows at least as 1 + 1 / q to the power g. Assumes nothing.
use mathlib.Core.Path.{◌≡◌}
use Prim.Native.Nat.{ℕ, ◌+◌, ◌*◌, ◌^◌, ◌≤◌}
use native.Mathlib.Nat.{le_dest, mul-le-mul_right}
use native.Mathlib.Omega.{arith}
use lib.Pow.{pow-add}
use Rattle.arith.proofs.Powers.{mul-pow}
use Rattle.packing.proofs.PowerAtMost.{PowerAtMost}
use Rattle.packing.proofs.Mean.{mean}

load_at : (q g k : ℕ) → PowerAtMost (q + 1) q (q * (g + k)) (q * (g + k) + g) g (g + k)
load_at q g k =
    let e : g * (q + 1) + k * q ≡ q * (g + k) + g = omega arith in
    record {
      le =
          rw (mul-pow q (g + k) (g + k), pow-add q g k) (omega (arith, mul-le-mul_right (q ^ g) (rw e at (mean g k (q + 1) q))));
    }

-- (1 + 1 / q) ^ g is at most (1 + g / (q * c)) ^ c.
pub load : (q : ℕ) {c g : ℕ} → g ≤ c → PowerAtMost (q + 1) q (q * c) (q * c + g) g c
load q {c} {g} h = let d = le_dest h in rw d.1 at (load_at q g d.0)
