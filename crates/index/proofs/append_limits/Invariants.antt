-- `index::append_limits` meets its contract: the limits of the nodes passed are written, and end is where the next comes.
-- Assumes nothing.
use Rattle.packed.specs.Packed.{net_in}
use Rattle.index.proofs.Gathering.{Gathering}
use Rattle.index.proofs.append_limits.Given as goal

abbrev pub invariant-loop-v : goal.invariant-loop-v
invariant-loop-v l = Gathering (net_in l.fn.net.shape l.net.numbers.now) l.table l.end l.v
