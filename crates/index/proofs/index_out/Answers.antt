-- `index::index_out` meets its contract: the arcs are at the nodes of their tails.
-- Assumes nothing.
use Rattle.packed.specs.Packed.{net_in}
use Rattle.index.proofs.Indexes.{out-columns, out-index}
use Rattle.index.proofs.index_out.Goals as goal

pub returns : goal.returns
unfolding net_in
returns c =
    let i = c.index_columns.ensures in record { arcs = out-index c.requires i.arcs; places = i.places }

pub index_columns-requires-clause-columns : goal.index_columns-requires-clause-columns
unfolding net_in
index_columns-requires-clause-columns c = out-columns c.requires
