-- `page::order::line_up` meets its contract: the places passed have their nodes. Assumes nothing.
use Rattle.paths.specs.Order.{LinedUp}
use Rattle.page.proofs.order.line_up.Given as goal

-- the first p places have their nodes
abbrev pub invariant-loop-p : goal.invariant-loop-p
invariant-loop-p l = LinedUp l.p l.page
