-- `walk::tight` meets its contract: no place passed has a tight arc.
-- Assumes nothing.
use mathlib.Core.Path.{sym, ◌∙◌}
use Rattle.paths.proofs.Passing.{passing-none, passing-offered, passing-more, passing-found}
use Rattle.walk.proofs.tight.Goals as goal

pub over_at-requires : goal.over_at-requires
over_at-requires c = passing-offered c.requires c.loop-p.invariant c.loop-p-test.true

pub returns-then-over_at-d : goal.returns-then-over_at-d
returns-then-over_at-d c =
    passing-found c.requires c.loop-p.invariant c.loop-p-test.true (sym c.over_at.ensures ∙ c.if-over_at-d.true)

pub loop-p-preserved : goal.loop-p-preserved
loop-p-preserved c = passing-more c.loop-p.invariant (λ q. c.if-over_at-d.false (c.over_at.ensures ∙ q))

pub returns : goal.returns
returns c = passing-none c.requires c.loop-p.invariant c.loop-p-test.false
