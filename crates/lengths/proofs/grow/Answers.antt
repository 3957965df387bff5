-- `lengths::grow` meets its contract: the lengths are grown along the arcs passed, with D and the test of the mark
-- carried along. The present arc has not had its turn, so its length is still below the mark. Assumes nothing.
use mathlib.Core.Path.{ap}
use mathlib.Core.Bool.{◌||◌}
use native.Mathlib.Omega.{arith}
use Rattle.lengths.proofs.Lengthened.{lengthen-none, lengthen-more, next-short, next-longer, next-rise}
use Rattle.lengths.proofs.grow.Goals as goal

pub loop-e-init : goal.loop-e-init
loop-e-init c = lengthen-none c.requires.growing _ c.requires.weight

pub loop-e-preserved : goal.loop-e-preserved
loop-e-preserved c =
    lengthen-more c.requires.growing c.loop-e.invariant c.loop-e-test.true c.growth-longer.result.value
    c.growth-longer.ensures _ (ap (λ x. c.loop-e.marked || x) c.marked-marked.ensures.value)

pub growth-longer-requires : goal.growth-longer-requires
growth-longer-requires c =
    let p = c.requires.growing in
    let here = p.places c.loop-e.e-index c.loop-e-test.true in (
      p.coarsest,
      p.finest,
      p.drawn c.loop-e.e-index c.loop-e-test.true,
      p.sizes.least _ here,
      p.sizes.most _ here,
      next-short p c.loop-e.invariant c.loop-e-test.true,
    )

pub overflow_sub-d : goal.overflow_sub-d
overflow_sub-d c =
    omega (arith, next-longer c.requires.growing c.loop-e.invariant c.loop-e-test.true _ c.growth-longer.ensures)

pub overflow_mul-d : goal.overflow_mul-d
overflow_mul-d c =
    omega (arith, next-rise c.requires.growing c.loop-e.invariant c.loop-e-test.true _ c.growth-longer.ensures)

pub overflow_add-d : goal.overflow_add-d
overflow_add-d c =
    let p = c.requires.growing in
    let I = c.loop-e.invariant in
    omega (arith, next-rise p I c.loop-e-test.true _ c.growth-longer.ensures, I.most, p.few)
