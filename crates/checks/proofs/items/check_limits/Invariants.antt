-- `checks::items::check_limits` meets its contract: the search from the present limit on finds what the whole search finds.
-- Assumes nothing.
use mathlib.Core.Path.{◌≡◌}
use Prim.Native.Nat.{◌-◌}
use lib.ListN.{length}
use Rattle.arith.specs.Lists.{up_to, flat}
use Rattle.network.specs.Parts.{of_limits}
use Rattle.network.specs.Verdict.{verdict, limit_conditions}
use Rattle.network.proofs.Search.{found}
use Rattle.checks.proofs.items.check_limits.Given as goal

abbrev pub invariant-loop-v : goal.invariant-loop-v
invariant-loop-v l = found (limit_conditions (of_limits l.limits)) l.v (length l.limits) ≡ verdict (flat (limit_conditions (of_limits l.limits)) (up_to (length l.limits)))

abbrev pub decreases-loop-v : goal.decreases-loop-v
decreases-loop-v l = length l.limits - l.v
