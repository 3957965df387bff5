-- `memory::pages::begin` meets its contract: the pages passed have their order. Assumes nothing.
use Rattle.paths.specs.Order.{LinedUp}
use Rattle.memory.proofs.Forgets.{Paged}
use Rattle.memory.proofs.pages.begin.Given as goal

-- the first t pages have their order
abbrev pub invariant-loop-t : goal.invariant-loop-t
invariant-loop-t l = Paged (λ was page. LinedUp l.n page) l.initial.memory l.memory l.t
