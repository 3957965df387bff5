-- `signed::size` meets its contract. Assumes nothing.
use native.Mathlib.Omega.{arith}
use Rattle.std.proofs.lemmas.Int.{to_z-of_z}
use Rattle.signed.proofs.Signed.{size-std}
use Rattle.signed.proofs.size.Goals as goal

pub returns : goal.returns
returns c = grind (arith, to_z-of_z, size-std)
