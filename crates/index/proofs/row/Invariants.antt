-- `index::row` meets its contract: the arcs passed are in the index.
-- Assumes nothing.
use Rattle.index.specs.Indexing.{side, Building}
use Rattle.index.proofs.row.Given as goal

abbrev pub invariant-loop-e : goal.invariant-loop-e
invariant-loop-e l = Building (side l.here l.there l.marks) l.v l.e l.ix
