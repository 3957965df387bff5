-- `index::place_nodes` meets its contract: the nodes passed have their resources, and next is the next one.
-- Assumes nothing.
use Rattle.packed.specs.Packed.{net_in}
use Rattle.index.proofs.Locating.{Locating}
use Rattle.index.proofs.place_nodes.Given as goal

abbrev pub invariant-loop-v : goal.invariant-loop-v
invariant-loop-v l = Locating (net_in l.fn.net.shape l.net.numbers.now) l.initial.ix l.ix l.next l.v
