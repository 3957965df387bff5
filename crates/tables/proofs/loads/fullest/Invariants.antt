-- `tables::loads::fullest` meets its contract: b is the fullest of the arcs passed.
-- Assumes nothing.
use Rattle.tables.proofs.Fuller.{Ranked}
use Rattle.tables.proofs.loads.fullest.Given as goal

abbrev pub invariant-loop-e : goal.invariant-loop-e
invariant-loop-e l = Ranked l.capacities l.loads l.e l.b
