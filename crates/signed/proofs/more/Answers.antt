-- `signed::more` meets its contract: the sum's size is at most that required. Assumes nothing.
use mir.Syntax.{w64}
use native.Mathlib.Omega.{arith}
use Rattle.std.proofs.lemmas.Int.{ints, fits_signed_from_abs}
use Rattle.signed.proofs.Signed.{size-std}
use Rattle.signed.proofs.more.Goals as goal

pub overflow_add-result : goal.overflow_add-result
overflow_add-result c = fits_signed_from_abs w64 _ (omega (arith, ints, size-std c.args.x))

pub returns : goal.returns
returns c = omega (arith, ints, size-std c.args.x)
