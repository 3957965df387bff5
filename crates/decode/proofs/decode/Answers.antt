-- `decode::decode` meets its contract: the columns of all are the network. Assumes nothing.
use Rattle.decode.proofs.Decoded.{decoded}
use Rattle.decode.proofs.decode.Goals as goal

pub returns : goal.returns
returns c =
    decoded c.requires c.read_pairs.ensures c.read_belts.ensures c.read_limits.ensures
