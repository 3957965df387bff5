-- `search::distances` meets its contract: its list is empty, and has room for each node.
-- Assumes nothing.
use native.Mathlib.Omega.{arith}
use Rattle.paths.proofs.Worklists.{worklist-zeros}
use Rattle.search.proofs.distances.Goals as goal

pub distances_in-requires : goal.distances_in-requires
distances_in-requires c =
    let n = c.requires.index.arcs.nodes in
    record { seeking = c.requires; empty = worklist-zeros _ 65 (omega (arith, n)) }
