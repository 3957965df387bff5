-- `choice::lazy::nearest` meets its contract: the bounds stay below the paths, and rise until the walk of the least is as long. Assumes nothing.
use Rattle.network.specs.Network.{commodities}
use Rattle.packed.specs.Packed.{net_in}
use Rattle.memory.specs.Memory.{bounds_in, Known}
use Rattle.choice.proofs.Slack.{slack}
use Rattle.choice.proofs.lazy.nearest.Given as goal

abbrev pub invariant-loop-arcs : goal.invariant-loop-arcs
invariant-loop-arcs l = Known l.net.shape (net_in l.net.shape l.net.numbers.now) l.lengths l.memory l.i

abbrev pub decreases-loop-arcs : goal.decreases-loop-arcs
decreases-loop-arcs l = slack (commodities (net_in l.net.shape l.net.numbers.now)) (bounds_in l.net.shape l.memory)
