-- `signed::twos` meets its contract. Assumes nothing.
use native.Mathlib.Omega.{arith}
use Rattle.std.proofs.lemmas.Int.{to_z-of_z}
use Rattle.signed.proofs.Signed.{twos-std}
use Rattle.signed.proofs.twos.Goals as goal

pub returns : goal.returns
returns c = grind (arith, to_z-of_z, twos-std)
