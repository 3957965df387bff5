-- `records::sizes::count_given` meets its contract. The loop's invariant: so many of the first i are not 0.
-- Assumes nothing.
use mathlib.Core.Path.{refl, sym, ap, ◌∙◌}
use Prim.Native.Nat.{◌+◌}
use native.Mathlib.Omega.{arith}
use Rattle.network.specs.Given.{given}
use Rattle.network.proofs.Given.{given-most, given-zero, given-one}
use Rattle.records.proofs.sizes.count_given.Goals as goal
use Rattle.records.proofs.sizes.count_given.Goals.{then-limits-i-ne0, else-limits-i-ne0}

pub loop-i-init : goal.loop-i-init
unfolding given
loop-i-init c = refl

pub overflow_add-r : goal.overflow_add-r
overflow_add-r c =
    omega (arith, c.loop-i.invariant, given-most c.args.limits.now c.loop-i.i)

pub loop-i-preserved : goal.loop-i-preserved
loop-i-preserved c =
    let xs = c.args.limits.now in
    let i = c.loop-i.i in
    elim c.if-limits-i-ne0.branch [
      | then-limits-i-ne0 w ↦ w.r-is ∙ (ap (λ r. r + 1) c.loop-i.invariant ∙ sym (given-one xs i w.if-limits-i-ne0.true))
      | else-limits-i-ne0 w ↦ w.r-is ∙ (c.loop-i.invariant ∙ sym (given-zero xs i w.if-limits-i-ne0.false))
    ]
