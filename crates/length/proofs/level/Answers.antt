-- `length::level` meets its contract: the constants of the code are the list of the specification.
-- Assumes nothing.
use Rattle.length.specs.Level.{level}
use Rattle.length.specs.Levels.{levels}
use Rattle.length.proofs.level.Goals as goal

pub returns : goal.returns
unfolding levels level
returns c = c.from.ensures
