-- `whole::sent::leaves` meets its contract. Assumes nothing.
use mathlib.Core.Path.{◌≡◌, refl, sym, ap, ◌∙◌}
use Prim.Native.Nat.{◌+◌, ◌<◌, ◌^◌}
use native.Mathlib.Omega.{arith}
use Rattle.arith.specs.Sum.{sum}
use Rattle.whole.proofs.Leaves.{over, leaves-sum, one_more, sum-next}
use Rattle.whole.proofs.sent.leaves.Goals as goal
use Rattle.whole.proofs.sent.leaves.Goals.{After-at-backward}

pub loop-e-init : goal.loop-e-init
unfolding sum
loop-e-init c = refl

-- what is added is what leaves over arc e
added :
    (c : After-at-backward) →
    c.at-forward.result + c.at-backward.result ≡ over c.args.belts.now c.args.flow.now c.args.from c.args.v c.loop-e.e
added c =
    rw (
      c.at-forward.ensures,
      c.at-backward.ensures,
      c.ahead.ensures,
      c.back.ensures,
      c.read.ensures,
      c.read-in-loop-e.ensures,
      c.read-amount.ensures,
    )

most : (c : After-at-backward) → c.loop-e.total + (c.at-forward.result + c.at-backward.result) < 2 ^ 64
most c =
    omega (
      arith,
      added c,
      c.loop-e.invariant,
      one_more c.args.belts.now c.args.flow.now c.args.from c.args.v c.loop-e.e (omega (arith, c.items-m.ensures)),
      c.requires.small,
    )

pub overflow_add-total : goal.overflow_add-total
overflow_add-total c = omega (arith, most c)

pub overflow_add-total-in-loop-e : goal.overflow_add-total-in-loop-e
overflow_add-total-in-loop-e c = omega (arith, most c)

pub loop-e-preserved : goal.loop-e-preserved
loop-e-preserved c =
    let next = sum-next c.args.belts.now c.args.flow.now c.args.from c.args.v c.loop-e.e in
    omega (arith, added c, c.loop-e.invariant, next)

pub returns : goal.returns
returns c =
    let a = c.args in
    c.loop-e.invariant ∙
    ap (λ e. sum e (over a.belts.now a.flow.now a.from a.v)) (omega (arith, c.loop-e-test.false, c.items-m.ensures)) ∙
    sym (leaves-sum a.belts.now a.flow.now a.from a.v)
