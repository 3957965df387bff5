-- `memory::pages::clear_pages` meets its contract: the pages passed have zeros for the nodes. Assumes nothing.
use mathlib.Core.Path.{◌≡◌}
use Rattle.memory.specs.Forgotten.{cleared}
use Rattle.memory.proofs.Forgets.{Paged}
use Rattle.memory.proofs.pages.clear_pages.Given as goal

-- the first t pages are cleared
abbrev pub invariant-loop-t : goal.invariant-loop-t
invariant-loop-t l = Paged (λ was page. page ≡ cleared l.n was) l.initial.memory l.memory l.t
