-- `decode::count_given` meets its contract. Assumes nothing.
use mathlib.Core.Path.{◌≡◌, refl, ap, ◌∙◌}
use Prim.Native.Nat.{◌+◌, ◌*◌}
use native.Mathlib.Omega.{arith}
use lib.ListN.{get_or}
use Rattle.network.specs.Given.{given}
use Rattle.network.proofs.Given.{given-most, given-zero, given-one}
use Rattle.numbers.specs.Numbers.{number_at, column}
use Rattle.numbers.proofs.Columns.{get_or-column}
use Rattle.decode.proofs.count_given.Goals as goal
use Rattle.decode.proofs.count_given.Goals.{In-loop-i}

pub loop-i-init : goal.loop-i-init
unfolding given
loop-i-init c = refl

pub overflow_add-r : goal.overflow_add-r
overflow_add-r c = omega (arith, c.loop-i.invariant, given-most (column c.args.limits.now 1 0 c.args.c) c.loop-i.i)

-- the number to count is the one that is read
present :
    (c : In-loop-i) →
    get_or (column c.args.limits.now 1 0 c.args.c) c.loop-i.i 0 ≡ number_at c.args.limits.now c.loop-i.i
present c =
    let e : 1 * c.loop-i.i + 0 ≡ c.loop-i.i = omega arith in
    get_or-column c.args.limits.now 1 0 c.args.c c.loop-i.i c.loop-i-test.true ∙ ap (number_at c.args.limits.now) e

pub loop-i-preserved : goal.loop-i-preserved
loop-i-preserved c =
    let xs = column c.args.limits.now 1 0 c.args.c in
    let e = present (goal.at.loop-i-preserved c).In-loop-i in
    grind (arith, e, given-zero xs c.loop-i.i, given-one xs c.loop-i.i)
