-- `tables::loads::copy_within` meets its contract: after e turns the first e numbers are copied. Assumes nothing.
use native.Mathlib.Omega.{arith}
use Rattle.tables.proofs.Copied.{copying-none, copying-more, copying-all}
use Rattle.tables.proofs.loads.copy_within.Goals as goal

pub loop-e-preserved : goal.loop-e-preserved
loop-e-preserved c =
    copying-more c.requires.0 c.requires.1 c.loop-e.invariant (omega arith)

pub returns : goal.returns
returns c = copying-all c.requires.0 c.requires.1 c.loop-e.invariant (omega arith)

pub loop-e-init : goal.loop-e-init
loop-e-init c = copying-none _ _ _ _
