-- `page::list::enlist` meets its contract: a node with no flag counts beside the others.
-- Assumes nothing.
use native.Mathlib.Omega.{arith}
use Rattle.paths.proofs.Enlisting.{met-came, met-stayed}
use Rattle.paths.proofs.Worklists.{worklist-within}
use Rattle.page.proofs.list.enlist.Goals as goal
use Rattle.page.proofs.list.enlist.Goals.{then-come, else-come}

pub overflow_add-result : goal.overflow_add-result
overflow_add-result c =
    let W = c.requires.worklist in
    elim c.if-come.branch [
      | then-come w ↦ omega (arith, w.flag-is, c.well_formed, worklist-within W, W.room)
      | else-come w ↦ omega (arith, w.flag-is, c.ranges.size.fits)
    ]

pub returns : goal.returns
returns c =
    elim c.if-come.branch [
      | then-come w ↦ met-came c.requires.worklist c.args.v c.requires.node w.if-come.true w.flag-is
      | else-come w ↦ met-stayed c.requires.worklist c.args.v c.requires.node w.if-come.false w.flag-is
    ]
