-- `index::index_by` meets its contract: the nodes passed are in the index, with all their arcs.
-- Assumes nothing.
use lib.ListN.{length}
use Rattle.index.specs.Indexing.{side, Building}
use Rattle.index.proofs.index_by.Given as goal

abbrev pub invariant-loop-v : goal.invariant-loop-v
invariant-loop-v l = Building (side l.here l.there l.marks) l.v (length l.here) l.ix
