-- `tables::loads::load` meets its contract: the loads are raised along the arcs passed, with the test of the threshold
-- carried along. No load has grown by more than 128 draws, so the sums fit. Assumes nothing.
use Rattle.std.proofs.Common.{arith}
use mathlib.Core.Path.{refl}
use Rattle.tables.proofs.Loadings.{raise-none, raise-more, next-load}
use Rattle.tables.proofs.loads.load.Goals as goal

pub loop-e-init : goal.loop-e-init
loop-e-init c = raise-none c.requires

pub overflow_add-y : goal.overflow_add-y
overflow_add-y c =
    omega (arith, next-load c.requires c.loop-e.invariant c.loop-e-test.true, c.requires.adding.small)

pub loop-e-preserved : goal.loop-e-preserved
loop-e-preserved c = raise-more c.requires c.loop-e.invariant c.loop-e-test.true _ refl
