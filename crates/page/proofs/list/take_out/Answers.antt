-- `page::list::take_out` meets its contract: the place has a node, and every node a flag.
-- Assumes nothing.
use Prim.Native.Nat.{◌+◌, ◌<◌}
use native.Mathlib.Omega.{arith}
use lib.ListN.{length}
use Rattle.paths.specs.Order.{order_from, node_at}
use Rattle.paths.proofs.TakingOut.{taken_out}
use Rattle.page.proofs.list.take_out.Goals as goal
use Rattle.page.proofs.list.take_out.Goals.{Start}

place : (s : Start) → order_from + s.args.at < length s.args.page.now
place s = omega (arith, s.requires.arranged.room, s.requires.waits.place)

flag : (s : Start) → node_at s.args.page.now s.args.at < length s.args.listed.now
flag s = omega (arith, s.requires.arranged.nodes s.args.at s.requires.waits.place, s.requires.worklist.room)

pub overflow_add-v : goal.overflow_add-v
overflow_add-v c = omega (arith, c.well_formed, place c)

pub offset_bounds-page-at : goal.offset_bounds-page-at
offset_bounds-page-at c = omega (arith, c.well_formed, place c)

pub bounds-page-at : goal.bounds-page-at
bounds-page-at c = place (goal.at.bounds-page-at c).Start

pub offset_bounds-listed-v : goal.offset_bounds-listed-v
offset_bounds-listed-v c = omega (arith, c.well_formed, flag (goal.at.offset_bounds-listed-v c).Start)

pub bounds-listed-v : goal.bounds-listed-v
bounds-listed-v c = flag (goal.at.bounds-listed-v c).Start

pub returns : goal.returns
returns c =
    let P = c.requires in
    taken_out P.worklist _ (P.arranged.nodes _ P.waits.place) P.waits.flag
