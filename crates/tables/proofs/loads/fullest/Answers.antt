-- `tables::loads::fullest` meets its contract: b is the fullest of the arcs passed.
-- Assumes nothing.
use Rattle.tables.proofs.Fuller.{rank-first, rank-fuller, rank-other}
use Rattle.tables.proofs.loads.fullest.Goals as goal
use Rattle.tables.proofs.loads.fullest.Goals.{then-loads-b, else-loads-b}

pub loop-e-init : goal.loop-e-init
loop-e-init c = rank-first _ _

pub loop-e-preserved : goal.loop-e-preserved
loop-e-preserved c =
    let turn = c.loop-e in
    elim c.if-loads-b.branch [
      | then-loads-b w ↦ rw w.b-is (rank-fuller turn.invariant w.if-loads-b.true)
      | else-loads-b w ↦ rw w.b-is (rank-other turn.invariant w.if-loads-b.false)
    ]
