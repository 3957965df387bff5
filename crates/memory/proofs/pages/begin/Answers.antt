-- `memory::pages::begin` meets its contract: the pages passed have their order. Assumes nothing.
use mathlib.Core.Path.{◌∙◌}
use Prim.Native.Nat.{◌+◌, ◌≤◌}
use native.Mathlib.Omega.{arith}
use lib.ListN.{length}
use Rattle.packed.specs.Packed.{put}
use Rattle.packed.proofs.Columns.{part_length}
use Rattle.paths.specs.Order.{page_numbers, LinedUp}
use Rattle.memory.specs.Memory.{page_from}
use Rattle.memory.proofs.Forgets.{Paged, paged-more}
use Rattle.memory.proofs.pages.begin.Goals as goal
use Rattle.memory.proofs.pages.begin.Goals.{After-line_up}

-- one page more has its order
more : (c : After-line_up) →
    Paged (λ was page. LinedUp c.args.n page) c.args.memory.now (put (page_from c.loop-t.t) page_numbers c.loop-t.memory c.line_up.new.page) (c.loop-t.t + 1)
more c =
    let room : page_from c.loop-t.t + page_numbers ≤ length c.loop-t.memory = omega (arith, c.requires, c.loop-t-test.true) in
    paged-more c.loop-t.invariant room c.line_up.new.page (c.line_up.auto.page ∙ part_length (page_from c.loop-t.t) page_numbers c.loop-t.memory room) c.line_up.ensures

pub loop-t-preserved : goal.loop-t-preserved
loop-t-preserved c = more (goal.at.loop-t-preserved c).After-line_up

pub returns-2 : goal.returns-2
returns-2 c = record { orders = λ t b. (more (goal.at.returns-2 c).After-line_up).done t (omega arith) }
