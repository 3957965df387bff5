-- `arith::wide::Wide::shifted` meets its contract. Assumes nothing.
use Rattle.arith.proofs.Shifts.{shifted}
use Rattle.arith.proofs.wide.Wide.shifted.Goals as goal

pub returns : goal.returns
returns c = rw c.copy_from_slice.ensures.after (shifted c.args.self.limbs c.requires.0 c.requires.1)
