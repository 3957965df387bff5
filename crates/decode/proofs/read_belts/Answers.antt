-- `decode::read_belts` meets its contract: each column is read to its place, and later ones leave it there. Assumes nothing.
use Rattle.decode.proofs.Decoded.{fills, belts-read}
use Rattle.decode.proofs.read_belts.Goals as goal

pub returns : goal.returns
returns c =
    belts-read c.requires (fills _ _ _ _ _ _ _ c.read_column.auto.out c.read_column.ensures)
    (fills _ _ _ _ _ _ _ c.read_column-2.auto.out c.read_column-2.ensures)
    (fills _ _ _ _ _ _ _ c.read_column-3.auto.out c.read_column-3.ensures)
    (fills _ _ _ _ _ _ _ c.read_column-4.auto.out c.read_column-4.ensures)
