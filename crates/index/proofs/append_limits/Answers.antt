-- `index::append_limits` meets its contract: the limits of the nodes passed are written, and end is where the next comes.
-- Assumes nothing.
use mathlib.Core.Path.{◌≡◌, sym, ◌∙◌}
use Prim.Native.Nat.{◌+◌, ◌<◌}
use native.Mathlib.Omega.{arith}
use lib.ListN.{length}
use Rattle.network.specs.Network.{Network}
use Rattle.network.specs.Resources.{resources}
use Rattle.packed.specs.Packed.{net_in}
use Rattle.packed.proofs.Columns.{arcs-is, capacities-length}
use Rattle.index.proofs.Gathering.{Gathering, gathering-none, gathering-on, gathering-place}
use Rattle.index.proofs.Gathering.{gathering-more, gathering-all}
use Rattle.index.proofs.append_limits.Goals as goal
use Rattle.index.proofs.append_limits.Goals.{In-loop-v, Joined-x-ne0, Start, Then-x-ne0, then-x-ne0, else-x-ne0}

abbrev net : Start → Network
net s = net_in s.args.net.now.shape s.args.net.now.numbers.now

-- the table has just the resources' places
size : (c : In-loop-v) → length c.loop-v.table ≡ resources (net (goal.at.In-loop-v c).Start)
size c = let p = c.requires.roomy in c.loop-v.auto.table ∙ (p.whole ∙ p.counted)

-- There is a place for a node that is limited.
place : (c : Then-x-ne0) → c.loop-v.end < length c.loop-v.table
unfolding net_in
place c =
    gathering-place c.loop-v.invariant (size (goal.at.Then-x-ne0 c).In-loop-v) c.loop-v-test.true
    (λ z. c.if-x-ne0.true (c.limit-x.ensures ∙ z))

-- After the present node, whether it has a limit or not.
gathered : (c : Joined-x-ne0) →
    Gathering (net (goal.at.Joined-x-ne0 c).Start) c.if-x-ne0.table c.if-x-ne0.end (c.loop-v.v + 1)
unfolding net_in
gathered c =
    let I = c.loop-v.invariant in
    let read = c.limit-x.ensures in
    let whole = size (goal.at.Joined-x-ne0 c).In-loop-v in
    elim c.if-x-ne0.branch [
      | then-x-ne0 w ↦
          rw (w.table-is, w.end-is)
          (gathering-more I whole c.loop-v-test.true (λ z. w.if-x-ne0.true (read ∙ z)) read)
      | else-x-ne0 w ↦ rw (w.table-is, w.end-is) (gathering-on I (sym read ∙ w.if-x-ne0.false))
    ]

pub loop-v-init : goal.loop-v-init
loop-v-init c =
    let p = c.requires in gathering-none (sym (arcs-is p.roomy.packed)) (capacities-length p.roomy.packed) p.capacities

pub loop-v-preserved : goal.loop-v-preserved
loop-v-preserved c = gathered (goal.at.loop-v-preserved c).Joined-x-ne0

pub offset_bounds-table-end : goal.offset_bounds-table-end
offset_bounds-table-end c = omega (arith, place c)

pub overflow_add-end : goal.overflow_add-end
overflow_add-end c = omega (arith, place c)

pub bounds-table-end : goal.bounds-table-end
bounds-table-end c = place c

pub returns-after-x-ne0 : goal.returns-after-x-ne0
unfolding net_in
returns-after-x-ne0 c =
    gathering-all (gathered (goal.at.returns-after-x-ne0 c).Joined-x-ne0)
    (c.if-x-ne0.auto.table ∙ size (goal.at.returns-after-x-ne0 c).In-loop-v) (omega arith)
