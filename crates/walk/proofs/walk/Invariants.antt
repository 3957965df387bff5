-- `walk::walk` meets its contract: the arcs written are the walk so far, and each arc leads to a nearer node.
-- Assumes nothing.
use lib.ListN.{length, get_or}
use Rattle.packed.specs.Packed.{net_in}
use Rattle.paths.proofs.Walking.{Walking}
use Rattle.walk.proofs.walk.Given as goal

abbrev pub invariant-loop-v : goal.invariant-loop-v
invariant-loop-v l = Walking (net_in l.net.shape l.net.numbers.now) l.lengths l.dist l.source l.sink (length l.initial.path) l.path l.v l.arcs

abbrev pub decreases-loop-v : goal.decreases-loop-v
decreases-loop-v l = get_or l.dist l.v 0
