-- `walk::walk` meets its contract: the arcs written are the walk so far, and each arc leads to a nearer node.
-- Assumes nothing.
use native.Mathlib.Omega.{arith}
use Rattle.paths.proofs.Walking.{walking-few, walking-end, walking-stuck, walking-step}
use Rattle.walk.proofs.walk.Goals as goal

pub returns-in_err-p : goal.returns-in_err-p
returns-in_err-p c =
    rw c.from_residual.ensures (walking-stuck c.requires c.loop-v.invariant c.loop-v-test.true c.in_err-p.ensures)

pub bounds-path-arcs : goal.bounds-path-arcs
bounds-path-arcs c =
    omega (arith, walking-few c.requires c.loop-v.invariant, c.loop-v.invariant.whole, c.requires.places)

pub loop-v-preserved : goal.loop-v-preserved
loop-v-preserved c = walking-step c.requires c.loop-v.invariant c.loop-v-test.true c.in_ok-p.ensures

pub returns : goal.returns
returns c = walking-end c.requires c.loop-v.invariant c.loop-v-test.false
