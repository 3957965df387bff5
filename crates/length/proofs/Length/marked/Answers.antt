-- `length::Length::marked` meets its contract: the constant is the mark.
-- Assumes nothing.
use mathlib.Core.Path.{refl}
use Rattle.length.specs.Length.{mark}
use Rattle.length.proofs.Length.marked.Goals as goal

pub returns : goal.returns
unfolding mark
returns c = record { value = refl; mark = refl }
