-- `host::room::check_office` meets its contract: 16 before 11. Assumes nothing.
use borrow.Author.Tests.{lt-ltb, le-ltb}
use mathlib.Core.Path.{refl, sym, ◌∙◌}
use Prim.Native.Nat.{◌≤◌, ◌<◌}
use native.Mathlib.Omega.{arith}
use Rattle.bounds.specs.Bounds.{most_running, offices}
use Rattle.network.specs.Sound.{Within}
use Rattle.network.proofs.Bounds.{within}
use Rattle.network.proofs.First.{decides, passes, none_left}
use Rattle.call.specs.Host.{count_of, office_conditions}
use Rattle.call.proofs.Hosts.{no-office}
use Rattle.host.proofs.room.check_office.Goals as goal
use Rattle.host.proofs.room.check_office.Goals.{Else-outside}

an-office : (c : Else-outside) → Within 1 offices c.args.office
an-office c = within _ _ _ (sym c.outside.ensures ∙ c.if-outside.false)

pub overflow_sub-place : goal.overflow_sub-place
overflow_sub-place c = (an-office c).least

pub read-requires : goal.read-requires
read-requires c = omega (arith, (an-office c).least, (an-office c).most, c.requires)

pub returns-then-outside : goal.returns-then-outside
returns-then-outside c = no-office _ _ (sym c.outside.ensures ∙ c.if-outside.true)

pub returns-then-read-gt-MOST_RUNNING : goal.returns-then-read-gt-MOST_RUNNING
unfolding office_conditions
returns-then-read-gt-MOST_RUNNING c =
    let h : most_running < count_of c.args.office c.args.counts.now = omega (arith, c.read.ensures, c.if-read-gt-MOST_RUNNING.true) in
    passes _ _ c.outside.ensures c.if-outside.false (decides _ refl (lt-ltb _ _ h))

pub returns : goal.returns
unfolding office_conditions
returns c =
    let h : count_of c.args.office c.args.counts.now ≤ most_running = omega (arith, c.read.ensures, c.if-read-gt-MOST_RUNNING.false) in
    passes _ _ c.outside.ensures c.if-outside.false (passes _ _ refl (le-ltb _ _ h) none_left)
