-- `checks::sizes::outside` meets its contract: each test decides its half of the definition's "or".
-- Assumes nothing.
use borrow.Author.Tests.{lt-ltb, le-ltb}
use Rattle.network.specs.Verdict.{outside}
use Rattle.checks.proofs.sizes.outside.Goals as goal

pub returns-then-x-lo : goal.returns-then-x-lo
unfolding outside
returns-then-x-lo c = simp (lt-ltb _ _ c.if-x-lo.true)

pub returns-else-x-lo : goal.returns-else-x-lo
unfolding outside
returns-else-x-lo c = simp (le-ltb _ _ c.if-x-lo.false)
