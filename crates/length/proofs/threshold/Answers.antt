-- `length::threshold` meets its contract: the product fits, since the threshold is at most 1,472.
-- Assumes nothing.
use mathlib.Core.Path.{◌≡◌, ap}
use Prim.Native.Nat.{ℕ, ◌*◌}
use native.Mathlib.Omega.{arith}
use Rattle.length.specs.Level.{threshold}
use Rattle.length.proofs.Bounds.{threshold-most}
use Rattle.length.proofs.threshold.Goals as goal
use Rattle.length.proofs.threshold.Goals.{After-level}

product : (c : After-level) → c.args.q * c.level.result ≡ threshold c.args.m c.args.q
unfolding threshold
product c = ap (λ (x : ℕ). c.args.q * x) c.level.ensures

pub overflow_mul-result : goal.overflow_mul-result
overflow_mul-result c =
    let a = c.args in
    omega (arith, product c, threshold-most a.m a.q (omega arith) (omega arith) (omega arith) (omega arith))

pub returns : goal.returns
returns c = product c
