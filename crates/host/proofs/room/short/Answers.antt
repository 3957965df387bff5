-- `host::room::short` meets its contract: the tables in turn. Assumes nothing.
use borrow.Author.Tests.{lt-ltb, le-ltb}
use mathlib.Core.Path.{◌≡◌, refl}
use mathlib.Core.Bool.{false}
use Prim.Native.Nat.{◌*◌, ◌≤◌, ◌<◌}
use native.Mathlib.Nat.{mul-le-mul}
use native.Mathlib.Omega.{arith}
use Rattle.bounds.specs.Bounds.{answer_numbers}
use Rattle.numbers.specs.Numbers.{count}
use Rattle.call.specs.Host.{short}
use Rattle.host.proofs.room.short.Goals as goal
use Rattle.host.proofs.room.short.Goals.{After-count, Else-count-k, Else-count-r}

pub overflow_mul-k : goal.overflow_mul-k
overflow_mul-k c = let p = c.requires in omega (arith, mul-le-mul p.0 p.1)

-- none of its own lacks, and each table where it has room
owns : (c : After-count) → c.args.lacking ≡ false
owns c = c.if-lacking.false

flows : (c : Else-count-k) → c.args.k * c.args.m ≤ count c.args.tables.now.flow.now
flows c = omega (arith, c.count.ensures, c.if-count-k.false)

lengths : (c : Else-count-r) → c.args.r ≤ count c.args.tables.now.lengths.now
lengths c = omega (arith, c.count-2.ensures, c.if-count-r.false)

pub returns-then-lacking : goal.returns-then-lacking
unfolding short
returns-then-lacking c = rw c.if-lacking.true refl

pub returns-then-count-k : goal.returns-then-count-k
unfolding short
returns-then-count-k c =
    let h : count c.args.tables.now.flow.now < c.args.k * c.args.m = omega (arith, c.count.ensures, c.if-count-k.true) in
    rw (owns (goal.at.returns-then-count-k c).After-count, lt-ltb _ _ h) refl

pub returns-then-count-r : goal.returns-then-count-r
unfolding short
returns-then-count-r c =
    let h : count c.args.tables.now.lengths.now < c.args.r = omega (arith, c.count-2.ensures, c.if-count-r.true) in
    rw (owns (goal.at.returns-then-count-r c).After-count, le-ltb _ _ (flows (goal.at.returns-then-count-r c).Else-count-k), lt-ltb _ _ h) refl

pub returns-then-count-lt-ANSWER_NUMBERS : goal.returns-then-count-lt-ANSWER_NUMBERS
unfolding short
returns-then-count-lt-ANSWER_NUMBERS c =
    let h : count c.args.tables.now.answer.now < answer_numbers = omega (arith, c.count-3.ensures, c.if-count-lt-ANSWER_NUMBERS.true) in
    rw (owns (goal.at.returns-then-count-lt-ANSWER_NUMBERS c).After-count, le-ltb _ _ (flows (goal.at.returns-then-count-lt-ANSWER_NUMBERS c).Else-count-k), le-ltb _ _ (lengths (goal.at.returns-then-count-lt-ANSWER_NUMBERS c).Else-count-r), lt-ltb _ _ h) refl

pub returns : goal.returns
unfolding short
returns c =
    let h : answer_numbers ≤ count c.args.tables.now.answer.now = omega (arith, c.count-3.ensures, c.if-count-lt-ANSWER_NUMBERS.false) in
    rw (owns (goal.at.returns c).After-count, le-ltb _ _ (flows (goal.at.returns c).Else-count-k), le-ltb _ _ (lengths (goal.at.returns c).Else-count-r), le-ltb _ _ h, c.count-4.ensures) refl
