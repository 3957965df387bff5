-- `walk::visit` meets its contract: the limited nodes up to the present one are written.
-- Assumes nothing.
use Prim.Native.Nat.{◌*◌, ◌≤◌, ◌<◌}
use native.Mathlib.Omega.{arith}
use lib.ListN.{length}
use Rattle.bounds.specs.Bounds.{most_nodes}
use Rattle.packed.proofs.Columns.{arcs-is}
use Rattle.paths.proofs.Collecting.{visits-none, collecting-first, collecting-end, collecting-room, collecting-arc, collecting-more}
use Rattle.walk.proofs.visit.Goals as goal
use Rattle.walk.proofs.visit.Goals.{At-loop-i, In-loop-i, Start}

-- there is room in the table
within : (s : Start) → s.args.arcs ≤ length s.args.path.now
within s = omega (arith, s.requires.few, s.requires.room)

room : (c : At-loop-i) → 2 * most_nodes ≤ length c.loop-i.path
room c = omega (arith, c.requires.room, c.loop-i.auto.path)

fits : (c : At-loop-i) → c.args.arcs ≤ length c.loop-i.path
fits c = omega (arith, room c, c.requires.few)

pub returns-then-net : goal.returns-then-net
returns-then-net c =
    let p = c.requires in
    visits-none (omega (arith, arcs-is p.packed, p.counted, c.if-net.true)) p.ends p.node p.leads-to p.few

pub loop-i-init : goal.loop-i-init
loop-i-init c =
    collecting-first c.args.path.now _ c.enter-used.ensures c.requires.node c.requires.leads-to (within (goal.at.loop-i-init c).Start)

pub beyond-to-requires : goal.beyond-to-requires
beyond-to-requires c =
    let p = c.requires in
    record { packed = p.packed; arc = omega (arith, arcs-is p.packed, collecting-arc c.loop-i.invariant p.ends (fits (goal.at.beyond-to-requires c).At-loop-i) c.loop-i-test.true) }

place : (c : In-loop-i) → c.loop-i.used < length c.loop-i.path
place c = collecting-room c.loop-i.invariant c.requires.few (room (goal.at.In-loop-i c).At-loop-i) c.loop-i-test.true

pub loop-i-preserved : goal.loop-i-preserved
loop-i-preserved c =
    collecting-more c.loop-i.invariant c.requires.ends (fits (goal.at.loop-i-preserved c).At-loop-i) c.loop-i-test.true c.beyond-to.ensures
    (omega (arith, place (goal.at.loop-i-preserved c).In-loop-i)) c.enter-used-in-loop-i.ensures

pub returns : goal.returns
returns c =
    collecting-end c.args.path.now _ _ c.enter-used.ensures (within (goal.at.returns c).Start) c.loop-i.invariant c.loop-i-test.false c.requires.few
