-- `length::Length::halving` meets its contract: the quotient is the definition's.
-- Assumes nothing.
use mathlib.Core.Path.{◌∙◌}
use native.Mathlib.Omega.{arith}
use Rattle.arith.proofs.Ceilings.{ceil-std}
use Rattle.length.specs.Length.{halving}
use Rattle.length.proofs.Length.halving.Goals as goal

pub returns : goal.returns
unfolding halving
returns c = c.div_ceil.ensures ∙ ceil-std c.args.self.value 2 (omega arith)
