-- `decode::read_pairs` meets its contract: each column is read to its place, and the second leaves the first there. Assumes nothing.
use Rattle.decode.proofs.Decoded.{fills, pairs-read}
use Rattle.decode.proofs.read_pairs.Goals as goal

pub returns : goal.returns
returns c =
    pairs-read c.requires (fills _ _ _ _ _ _ _ c.read_column.auto.out c.read_column.ensures)
    (fills _ _ _ _ _ _ _ c.read_column-2.auto.out c.read_column-2.ensures)
