-- `signed::less` meets its contract: the difference's size is at most that required. Assumes nothing.
use mir.Syntax.{w64}
use native.Mathlib.Omega.{arith}
use Rattle.std.proofs.lemmas.Int.{ints, fits_signed_from_abs}
use Rattle.signed.proofs.Signed.{size-std}
use Rattle.signed.proofs.less.Goals as goal

pub overflow_sub-result : goal.overflow_sub-result
overflow_sub-result c = fits_signed_from_abs w64 _ (omega (arith, ints, size-std c.args.x))

pub returns : goal.returns
returns c = omega (arith, ints, size-std c.args.x)
