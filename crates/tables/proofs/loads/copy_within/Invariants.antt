-- `tables::loads::copy_within` meets its contract: after e turns the first e numbers are copied. Assumes nothing.
use Rattle.tables.proofs.Copied.{Copying}
use Rattle.tables.proofs.loads.copy_within.Given as goal

abbrev pub invariant-loop-e : goal.invariant-loop-e
invariant-loop-e l = Copying l.initial.table l.from l.to l.n l.e l.table
