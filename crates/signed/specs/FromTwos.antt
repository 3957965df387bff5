-- Two's complement read back.
use Rattle.std.specs.Prelude.{cond, ℕ, ◌-◌, ◌^◌, ltb, ℤ, pos, negsuc}

-- The amount that a host reads out of a number of 64 bits.
unfoldable pub from_twos : ℕ → ℤ
from_twos u = cond (ltb u (2 ^ 63)) (pos u) (negsuc (2 ^ 64 - 1 - u))
