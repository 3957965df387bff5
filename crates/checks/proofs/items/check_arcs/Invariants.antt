-- `checks::items::check_arcs` meets its contract: the search from the present arc on finds what the whole search finds.
-- Assumes nothing.
use mathlib.Core.Path.{◌≡◌}
use Prim.Native.Nat.{◌-◌}
use lib.ListN.{length}
use Rattle.arith.specs.Lists.{up_to, flat}
use Rattle.network.specs.Parts.{of_arcs}
use Rattle.network.specs.Verdict.{verdict, arc_conditions}
use Rattle.network.proofs.Search.{found}
use Rattle.checks.proofs.items.check_arcs.Given as goal

abbrev pub invariant-loop-e : goal.invariant-loop-e
invariant-loop-e l = found (arc_conditions (of_arcs l.n l.tails l.heads l.capacities)) l.e (length l.tails) ≡ verdict (flat (arc_conditions (of_arcs l.n l.tails l.heads l.capacities)) (up_to (length l.tails)))

abbrev pub decreases-loop-e : goal.decreases-loop-e
decreases-loop-e l = length l.tails - l.e
