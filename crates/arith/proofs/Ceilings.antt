-- Laws of the rounded-up quotient: b times it is at least a, and less than b more than a.
-- Assumes nothing.
use mathlib.Core.Path.{◌≡◌}
use Prim.Native.Nat.{ℕ, ◌+◌, ◌*◌, ◌-◌, ◌≤◌, ◌<◌}
use native.Mathlib.Nat.{div-add-mod, mod-lt, lt_of_mul-lt-mul_left}
use native.Mathlib.Omega.{arith}
use Rattle.std.specs.Int.{div_ceil}
use Rattle.std.proofs.lemmas.Grind.{div_ceil_times}
use Rattle.arith.specs.Ceiling.{ceil}

pub ceil-above : (a b : ℕ) → 0 < b → a ≤ b * ceil a b
unfolding ceil
ceil-above a b h = omega (arith, div-add-mod (a + (b - 1)) b, mod-lt (a + (b - 1)) h)

pub ceil-below : (a b : ℕ) → 0 < b → b * ceil a b < a + b
unfolding ceil
ceil-below a b h = omega (arith, div-add-mod (a + (b - 1)) b)

pub ceil-zero : (b : ℕ) → 0 < b → ceil 0 b ≡ 0
ceil-zero b h = let one : ceil 0 b < 1 = lt_of_mul-lt-mul_left b (omega (arith, ceil-below 0 b h)) in omega arith

-- It is std's.
pub ceil-std : (a b : ℕ) → 0 < b → div_ceil a b ≡ ceil a b
ceil-std a b h =
    let (above, below) = div_ceil_times a b h in
    let most = lt_of_mul-lt-mul_left b {m = div_ceil a b} {n = ceil a b + 1} (omega (arith, below, ceil-above a b h)) in
    let least =
    lt_of_mul-lt-mul_left b {m = ceil a b} {n = div_ceil a b + 1} (omega (arith, above, ceil-below a b h)) in
    omega arith
