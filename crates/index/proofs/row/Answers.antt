-- `index::row` meets its contract: the arcs passed are in the index.
-- Assumes nothing.
use Rattle.index.proofs.Opening.{building-next}
use Rattle.index.proofs.row.Goals as goal

pub loop-e-init : goal.loop-e-init
loop-e-init c = building-next c.requires.building c.requires.columns c.requires.node
