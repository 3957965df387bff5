-- `signed::back` meets its contract. Assumes nothing.
use native.Mathlib.Omega.{arith}
use Rattle.std.proofs.lemmas.Int.{to_z-of_z}
use Rattle.signed.proofs.Signed.{from_twos-std, back-std}
use Rattle.signed.proofs.back.Goals as goal

pub returns : goal.returns
returns c = grind (arith, to_z-of_z, from_twos-std, back-std)
