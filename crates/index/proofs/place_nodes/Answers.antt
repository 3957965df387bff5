-- `index::place_nodes` meets its contract: the nodes passed have their resources, and next is the next one.
-- Assumes nothing.
use mathlib.Core.Path.{sym, ◌∙◌}
use Prim.Native.Nat.{◌+◌, ◌<◌}
use native.Mathlib.Omega.{arith}
use lib.ListN.{length}
use Rattle.packed.specs.Packed.{net_in}
use Rattle.packed.proofs.Columns.{arcs-is}
use Rattle.index.specs.Index.{places_from}
use Rattle.index.proofs.Limits.{place-most}
use Rattle.index.proofs.Locating.{Locating, locating-none, locating-none-limited, locating-limited, locating-all}
use Rattle.index.proofs.place_nodes.Goals as goal
use Rattle.index.proofs.place_nodes.Goals.{Joined-limit-ne0, then-limit-ne0, else-limit-ne0}

pub loop-v-init : goal.loop-v-init
loop-v-init c = locating-none (sym (arcs-is c.requires.packed))

pub overflow_add-next : goal.overflow_add-next
unfolding net_in
overflow_add-next c =
    let p = c.requires in
    omega (
      arith,
      c.loop-v.invariant.next-is,
      place-most (net_in c.args.net.now.shape c.args.net.now.numbers.now) c.loop-v.v,
      arcs-is p.packed,
      p.packed.few-arcs,
      p.nodes,
    )

-- After the present node, whether it has a limit or not.
located : (c : Joined-limit-ne0) →
    let net = net_in c.args.net.now.shape c.args.net.now.numbers.now in
    Locating net c.args.ix.now c.if-limit-ne0.ix c.if-limit-ne0.next (c.loop-v.v + 1)
unfolding net_in
located c =
    let I = c.loop-v.invariant in
    let room : places_from + c.loop-v.v < length c.loop-v.ix = omega (arith, c.requires.nodes, c.requires.numbers) in
    let read = c.limit.ensures in
    let p = c.requires in
    elim c.if-limit-ne0.branch [
      | then-limit-ne0 w ↦ rw (w.ix-is, w.next-is) (locating-limited I room (λ z. w.if-limit-ne0.true (read ∙ z)))
      | else-limit-ne0 w ↦
          rw (w.ix-is, w.next-is) (locating-none-limited I room (sym read ∙ w.if-limit-ne0.false) p.counted)
    ]

pub loop-v-preserved : goal.loop-v-preserved
loop-v-preserved c = located (goal.at.loop-v-preserved c).Joined-limit-ne0

pub returns-after-limit-ne0 : goal.returns-after-limit-ne0
unfolding net_in
returns-after-limit-ne0 c = locating-all (located (goal.at.returns-after-limit-ne0 c).Joined-limit-ne0) (omega arith)
