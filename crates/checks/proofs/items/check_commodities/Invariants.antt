-- `checks::items::check_commodities` meets its contract: the search from the present commodity on finds what the whole search finds.
-- Assumes nothing.
use mathlib.Core.Path.{◌≡◌}
use Prim.Native.Nat.{◌-◌}
use lib.ListN.{length}
use Rattle.arith.specs.Lists.{up_to, flat}
use Rattle.network.specs.Parts.{of_commodities}
use Rattle.network.specs.Verdict.{verdict, commodity_conditions}
use Rattle.network.proofs.Search.{found}
use Rattle.checks.proofs.items.check_commodities.Given as goal

abbrev pub invariant-loop-i : goal.invariant-loop-i
invariant-loop-i l =
    found (commodity_conditions (of_commodities l.n l.sources l.sinks)) l.i (length l.sources) ≡
    verdict (flat (commodity_conditions (of_commodities l.n l.sources l.sinks)) (up_to (length l.sources)))

abbrev pub decreases-loop-i : goal.decreases-loop-i
decreases-loop-i l = length l.sources - l.i
