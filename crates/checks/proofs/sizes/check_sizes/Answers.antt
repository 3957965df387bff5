-- `checks::sizes::check_sizes` meets its contract: each condition is passed or decides, in the table's order.
-- Assumes nothing.
use mathlib.Core.Path.{◌≡◌, refl}
use mathlib.Core.List.{List}
use Prim.Native.Nat.{ℕ}
use lib.ListN.{drop}
use borrow.Author.Tests.{lt-ltb, le-ltb}
use Rattle.bounds.specs.Bounds.{most_arcs}
use Rattle.network.specs.Verdict.{Condition, verdict, size_conditions}
use Rattle.network.specs.Refusal.{Verdict}
use Rattle.network.proofs.First.{decides, passes, none_left}
use Rattle.checks.proofs.sizes.check_sizes.Goals as goal
use Rattle.checks.proofs.sizes.check_sizes.Goals.{Else-outside, Else-outside-2, Else-outside-3, Else-r-gt-MOST_ARCS, Start}

-- the conditions from the one at i on
abbrev from : ℕ → Start → List Condition
from i s = drop i (size_conditions s.args.n s.args.m s.args.r s.args.k s.args.q)

-- Behind a condition, what the later ones say is what all say.
past-1 : (c : Else-outside) {v : Verdict} → v ≡ verdict (from 1 (goal.at.Else-outside c).Start) → v ≡ verdict (from 0 (goal.at.Else-outside c).Start)
unfolding size_conditions
past-1 c w = passes _ _ c.outside.ensures c.if-outside.false w

past-2 : (c : Else-outside-2) {v : Verdict} → v ≡ verdict (from 2 (goal.at.Else-outside-2 c).Start) → v ≡ verdict (from 0 (goal.at.Else-outside-2 c).Start)
unfolding size_conditions
past-2 c w = past-1 (goal.at.Else-outside-2 c).Else-outside (passes _ _ c.outside-2.ensures c.if-outside-2.false w)

past-3 : (c : Else-r-gt-MOST_ARCS) {v : Verdict} → v ≡ verdict (from 3 (goal.at.Else-r-gt-MOST_ARCS c).Start) → v ≡ verdict (from 0 (goal.at.Else-r-gt-MOST_ARCS c).Start)
unfolding size_conditions
past-3 c w = past-2 (goal.at.Else-r-gt-MOST_ARCS c).Else-outside-2 (passes _ _ refl (le-ltb most_arcs c.args.r c.if-r-gt-MOST_ARCS.false) w)

past-4 : (c : Else-outside-3) {v : Verdict} → v ≡ verdict (from 4 (goal.at.Else-outside-3 c).Start) → v ≡ verdict (from 0 (goal.at.Else-outside-3 c).Start)
unfolding size_conditions
past-4 c w = past-3 (goal.at.Else-outside-3 c).Else-r-gt-MOST_ARCS (passes _ _ c.outside-3.ensures c.if-outside-3.false w)

pub returns-then-outside : goal.returns-then-outside
unfolding size_conditions
returns-then-outside c = decides _ c.outside.ensures c.if-outside.true

pub returns-then-outside-2 : goal.returns-then-outside-2
unfolding size_conditions
returns-then-outside-2 c = past-1 (goal.at.returns-then-outside-2 c).Else-outside (decides _ c.outside-2.ensures c.if-outside-2.true)

pub returns-then-r-gt-MOST_ARCS : goal.returns-then-r-gt-MOST_ARCS
unfolding size_conditions
returns-then-r-gt-MOST_ARCS c = past-2 (goal.at.returns-then-r-gt-MOST_ARCS c).Else-outside-2 (decides _ refl (lt-ltb most_arcs c.args.r c.if-r-gt-MOST_ARCS.true))

pub returns-then-outside-3 : goal.returns-then-outside-3
unfolding size_conditions
returns-then-outside-3 c = past-3 (goal.at.returns-then-outside-3 c).Else-r-gt-MOST_ARCS (decides _ c.outside-3.ensures c.if-outside-3.true)

pub returns-then-outside-4 : goal.returns-then-outside-4
unfolding size_conditions
returns-then-outside-4 c = past-4 (goal.at.returns-then-outside-4 c).Else-outside-3 (decides _ c.outside-4.ensures c.if-outside-4.true)

pub returns : goal.returns
unfolding size_conditions
returns c = past-4 (goal.at.returns c).Else-outside-3 (passes _ _ c.outside-4.ensures c.if-outside-4.false none_left)
