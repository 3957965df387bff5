-- `signed::ahead` meets its contract. Assumes nothing.
use native.Mathlib.Omega.{arith}
use Rattle.std.proofs.lemmas.Int.{to_z-of_z}
use Rattle.signed.proofs.Signed.{from_twos-std, ahead-std}
use Rattle.signed.proofs.ahead.Goals as goal

pub returns : goal.returns
returns c = grind (arith, to_z-of_z, from_twos-std, ahead-std)
