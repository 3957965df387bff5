-- `length::Length::start` meets its contract: the constant is the scale, and the quotient is the definition's.
-- Assumes nothing.
use mathlib.Core.Path.{refl, ◌∙◌}
use Rattle.arith.proofs.Ceilings.{ceil-std}
use Rattle.length.specs.Length.{scale, start}
use Rattle.length.proofs.Length.start.Goals as goal

pub returns : goal.returns
unfolding scale start
returns c = record { value = c.div_ceil.ensures ∙ ceil-std _ c.args.capacity c.requires.0; scale = refl }
