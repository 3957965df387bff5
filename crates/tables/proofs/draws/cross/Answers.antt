-- `tables::draws::cross` meets its contract: the amount that it stores is the one that it read, moved by the tail's test. Assumes nothing.
use Rattle.std.proofs.Common.{arith}
use Rattle.std.proofs.lemmas.Int.{ints}
use Rattle.tables.proofs.Crossings.{from_tail, from-head}
use Rattle.tables.proofs.draws.cross.Goals as goal

-- A signed local holds bits, which stand for the amount.
pub returns-then-net-e : goal.returns-then-net-e
returns-then-net-e c =
    from_tail c.requires c.args.v c.if-net-e.true (omega (arith, ints))

pub returns-else-net-e : goal.returns-else-net-e
returns-else-net-e c =
    from-head c.requires c.args.v c.if-net-e.false (omega (arith, ints))
