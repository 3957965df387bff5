-- `index::add` meets its contract: an arc at another node is passed by, one at this node put behind the others.
-- Assumes nothing.
use Rattle.index.proofs.Adding.{building-room, building-put}
use Rattle.index.proofs.Building.{building-on}
use Rattle.index.proofs.add.Goals as goal

pub put-requires : goal.put-requires
put-requires c = building-room c.requires.building c.requires.seeing c.in-Some.ensures

pub returns-in-Some : goal.returns-in-Some
returns-in-Some c = rw c.put.ensures (building-put c.requires.building c.requires.seeing c.in-Some.ensures)

pub returns-in_default : goal.returns-in_default
returns-in_default c = building-on c.requires.building c.in_default.ensures
