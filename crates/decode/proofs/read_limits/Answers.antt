-- `decode::read_limits` meets its contract: the column is read to its place. Assumes nothing.
use Rattle.decode.proofs.Decoded.{fills, limits-read}
use Rattle.decode.proofs.read_limits.Goals as goal

pub returns : goal.returns
returns c =
    limits-read c.requires (fills _ _ _ _ _ _ _ c.read_column.auto.out c.read_column.ensures)
