-- `walk::visit` meets its contract: the limited nodes up to the present one are written.
-- Assumes nothing.
use lib.ListN.{take}
use Rattle.packed.specs.Packed.{net_in}
use Rattle.paths.proofs.Collecting.{Collecting}
use Rattle.walk.proofs.visit.Given as goal

abbrev pub invariant-loop-i : goal.invariant-loop-i
invariant-loop-i l = Collecting (net_in l.net.shape l.net.numbers.now) l.source l.arcs (take l.arcs l.initial.path) l.path l.used l.at l.i
