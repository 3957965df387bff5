-- `index::index_columns` meets its contract: the resources of the nodes come behind the arcs.
-- Assumes nothing.
use Rattle.index.proofs.Locating.{index-located}
use Rattle.index.proofs.index_columns.Goals as goal

pub returns-clause-arcs : goal.returns-clause-arcs
returns-clause-arcs c = index-located c.index_by.ensures c.place_nodes.ensures.before c.place_nodes.auto.ix
