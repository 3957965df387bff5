-- `checks::items::check_limits` meets its contract: the search from the present limit on finds what the whole search finds.
-- Assumes nothing.
use mathlib.Core.Path.{refl, ◌∙◌}
use mathlib.Core.Bool.{Bool}
use Prim.Native.Nat.{ℕ}
use native.Mathlib.Omega.{arith}
use lib.Dec.{ltb}
use lib.ListN.{get_or}
use borrow.Author.Tests.{lt-ltb, le-ltb}
use Rattle.bounds.specs.Bounds.{most_capacity}
use Rattle.network.specs.Verdict.{limit_conditions}
use Rattle.network.proofs.First.{decides, passes, none_left}
use Rattle.network.proofs.Search.{search-all, search-ends, search-stops, search-goes-on}
use Rattle.checks.proofs.items.check_limits.Goals as goal
use Rattle.checks.proofs.items.check_limits.Goals.{At-loop-v}

-- the present limit, and its test as the definition has it
abbrev present : At-loop-v → ℕ
present c = get_or c.args.limits.now c.loop-v.v 0

abbrev large : At-loop-v → Bool
large c = ltb most_capacity (present c)

pub loop-v-init : goal.loop-v-init
loop-v-init c = search-all _ _

pub loop-v-preserved : goal.loop-v-preserved
unfolding limit_conditions
loop-v-preserved c =
    search-goes-on _ _ _ (omega arith)
    (passes {t = large (goal.at.loop-v-preserved c).At-loop-v} _ _ refl (le-ltb most_capacity (present (goal.at.loop-v-preserved c).At-loop-v) (omega (arith, c.if-at-gt-MOST_CAPACITY.false, c.at.ensures))) none_left) ∙
    c.loop-v.invariant

pub returns-then-v-limits : goal.returns-then-v-limits
returns-then-v-limits c = search-ends _ _ _ c.if-v-limits.true ∙ c.loop-v.invariant

pub returns-then-at-gt-MOST_CAPACITY : goal.returns-then-at-gt-MOST_CAPACITY
unfolding limit_conditions
returns-then-at-gt-MOST_CAPACITY c =
    search-stops _ _ _ (omega arith)
    (decides {t = large (goal.at.returns-then-at-gt-MOST_CAPACITY c).At-loop-v} _ refl (lt-ltb most_capacity (present (goal.at.returns-then-at-gt-MOST_CAPACITY c).At-loop-v) (omega (arith, c.if-at-gt-MOST_CAPACITY.true, c.at.ensures)))) ∙
    c.loop-v.invariant
