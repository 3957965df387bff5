-- `search::reset` meets its contract: the entries passed are far, the others as they were.
-- Assumes nothing.
use native.Mathlib.Omega.{arith}
use borrow.Author.Fill.{fill_none, fill_more}
use Rattle.paths.specs.Far.{far}
use Rattle.search.proofs.reset.Goals as goal

pub loop-v-init : goal.loop-v-init
loop-v-init c = fill_none _ far

pub loop-v-preserved : goal.loop-v-preserved
loop-v-preserved c = rw c.loop-v.invariant (fill_more c.loop-v.v far c.args.dist.now (omega (arith, c.requires, c.loop-v-test.true)))
