-- `search::distances_in` meets its contract: a node is put on the list only where an entry falls, and each turn takes one off; so it ends, with
-- none.
-- Assumes nothing.
use Prim.Native.Nat.{◌+◌}
use Rattle.packed.specs.Packed.{net_in}
use Rattle.paths.specs.Searching.{total, Searching, Any}
use Rattle.search.proofs.distances_in.Given as goal

-- no arc into a node that is not on the list shortens
abbrev pub invariant-loop-size : goal.invariant-loop-size
invariant-loop-size l = Searching (net_in l.net.shape l.net.numbers.now) l.lengths l.sink Any l.page l.listed l.size

abbrev pub decreases-loop-size : goal.decreases-loop-size
decreases-loop-size l = total (net_in l.net.shape l.net.numbers.now) l.page + l.size
