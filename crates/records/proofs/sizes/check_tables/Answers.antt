-- `records::sizes::check_tables` meets its contract: the product fits, of counts within their bounds. Assumes nothing.
use native.Mathlib.Nat.{mul-le-mul}
use native.Mathlib.Omega.{arith}
use Rattle.records.proofs.sizes.check_tables.Goals as goal

pub overflow_mul-k : goal.overflow_mul-k
overflow_mul-k c = omega (arith, mul-le-mul c.requires.0 c.requires.1)
