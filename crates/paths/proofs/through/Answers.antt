-- `paths::through` meets its contract: past the last length there is none.
-- Assumes nothing.
use mathlib.Core.Path.{sym}
use lib.ListN.{get_or-eq_default}
use Rattle.paths.proofs.through.Goals as goal

pub returns : goal.returns
returns c = sym (get_or-eq_default c.args.lengths.now 0 c.if-r-lengths.false)
