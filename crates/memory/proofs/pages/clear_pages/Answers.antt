-- `memory::pages::clear_pages` meets its contract: the pages passed have zeros for the nodes. Assumes nothing.
use mathlib.Core.Path.{◌≡◌, ◌∙◌}
use Prim.Native.Nat.{◌+◌, ◌≤◌}
use native.Mathlib.Omega.{arith}
use lib.ListN.{length}
use Rattle.packed.specs.Packed.{put}
use Rattle.packed.proofs.Columns.{part_length}
use Rattle.paths.specs.Order.{page_numbers}
use Rattle.memory.specs.Forgotten.{cleared}
use Rattle.memory.specs.Memory.{page_from}
use Rattle.memory.proofs.Forgets.{Paged, paged-more}
use Rattle.memory.proofs.pages.clear_pages.Goals as goal
use Rattle.memory.proofs.pages.clear_pages.Goals.{After-clear}

-- one page more is cleared
more : (c : After-clear) →
    Paged (λ was page. page ≡ cleared c.args.n was) c.args.memory.now (put (page_from c.loop-t.t) page_numbers c.loop-t.memory c.clear.new.page) (c.loop-t.t + 1)
more c =
    let room : page_from c.loop-t.t + page_numbers ≤ length c.loop-t.memory = omega (arith, c.requires, c.loop-t-test.true) in
    paged-more c.loop-t.invariant room c.clear.new.page (c.clear.auto.page ∙ part_length (page_from c.loop-t.t) page_numbers c.loop-t.memory room) c.clear.ensures

pub loop-t-preserved : goal.loop-t-preserved
loop-t-preserved c = more (goal.at.loop-t-preserved c).After-clear

pub returns-2 : goal.returns-2
returns-2 c =
    let P = more (goal.at.returns-2 c).After-clear in
    record { front = P.front; pages = λ t b. P.done t (omega arith) }
