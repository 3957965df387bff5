-- `tables::loads::load` meets its contract: the loads are raised along the arcs passed, with the test of the threshold
-- carried along. Assumes nothing.
use Rattle.tables.proofs.Loadings.{Raised}
use Rattle.tables.proofs.loads.load.Given as goal

abbrev pub invariant-loop-e : goal.invariant-loop-e
invariant-loop-e l = Raised l.capacities l.initial.loads l.threshold l.path l.g l.e-index l.loads l.full
