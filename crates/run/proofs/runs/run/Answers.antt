-- `run::runs::run` meets its contract: the loop is the definition's, and what is left of m * T falls with each iteration.
-- Assumes nothing.
use mathlib.Core.Path.{ap, ◌∙◌}
use native.Mathlib.Omega.{arith}
use Rattle.length.specs.Level.{threshold}
use Rattle.network.specs.Network.{Network}
use Rattle.network.proofs.Sounds.{resources-within}
use Rattle.packed.specs.Packed.{net_in}
use Rattle.packed.proofs.Columns.{arcs-is}
use Rattle.method.specs.Iteration.{State}
use Rattle.step.specs.Progress.{state_in}
use Rattle.run.specs.Noted.{Iterated}
use Rattle.run.proofs.Begun.{begin-noted, begin-running}
use Rattle.run.proofs.Onward.{onward-less, onward-last, onward-running, onward-noted}
use Rattle.run.proofs.runs.run.Goals as goal
use Rattle.run.proofs.runs.run.Goals.{After-iterate-p, Start}

-- the network at entry
abbrev net : Start → Network
net s = net_in s.args.net.now.shape s.args.net.now.numbers.now

-- The table of L has a row for this many resources. It has one for this many arcs too, so that a
-- mark by the arcs fails not here but where it has to be the method's mark.
pub threshold-threshold-requires : goal.threshold-threshold-requires
threshold-threshold-requires c =
    let a = c.requires.room.lent in
    let k = resources-within _ _ a.sound in
    let e = a.sound.counts.of-arcs in
    let m = arcs-is a.packed in
    let p = a.sound.counts.precision in
    (omega (arith, k.least, a.counted, e.least, m), omega (arith, k.most, a.counted, e.most, m), p.least, p.most)

pub loop-p-init : goal.loop-p-init
loop-p-init c =
    let a = c.requires.room.lent in (
      begin-running c.begin-p.ensures a.sound c.requires.starting.start c.requires.starting.chooses,
      (
        begin-noted c.begin-p.ensures c.requires.starting.weight (c.threshold-threshold.ensures ∙ ap (λ m. threshold m c.args.q) a.counted),
        c.requires.starting.memory-of,
      ),
    )

pub iterate-p-requires : goal.iterate-p-requires
iterate-p-requires c =
    let p = c.requires in
    let i = c.loop-p.invariant in
    record {
      room = record {
        lent = p.room.lent;
        indexed = p.room.indexed;
        tables = omega (arith, c.loop-p.auto.tables, p.room.tables);
        path = omega (arith, c.loop-p.auto.path, p.room.path);
      };
      iterating = record { memory-of = i.1.1; chooses = p.starting.chooses; underway = i.0.underway; noted = i.1.0 };
    }

abbrev old : After-iterate-p → State
old c = let l = c.loop-p in state_in c.args.net.now.shape l.flow l.tables l.p

abbrev new : After-iterate-p → State
new c =
    let l = c.iterate-p.new in
    state_in c.args.net.now.shape l.flow l.tables c.iterate-p.result

iterated : (c : After-iterate-p) → Iterated (net (goal.at.After-iterate-p c).Start) c.args.q (old c) (new c) c.iterate-p.result
iterated c = c.iterate-p.ensures.iterated

pub loop-p-smaller : goal.loop-p-smaller
loop-p-smaller c =
    onward-less (net (goal.at.loop-p-smaller c).Start) c.args.q c.requires.room.lent.sound c.requires.starting.chooses c.loop-p.invariant.0 (iterated (goal.at.loop-p-smaller c).After-iterate-p)

pub loop-p-preserved : goal.loop-p-preserved
loop-p-preserved c =
    let i = c.loop-p.invariant in (
      onward-running (net (goal.at.loop-p-preserved c).Start) c.args.q c.requires.room.lent.sound c.requires.starting.chooses i.0 (iterated (goal.at.loop-p-preserved c).After-iterate-p) c.if-p.false,
      (onward-noted i.1.0 (iterated (goal.at.loop-p-preserved c).After-iterate-p), c.iterate-p.ensures.memory-of),
    )

pub returns-then-p : goal.returns-then-p
returns-then-p c =
    onward-last (net (goal.at.returns-then-p c).Start) c.args.q c.requires.room.lent.sound c.requires.starting.chooses c.loop-p.invariant.0 (iterated (goal.at.returns-then-p c).After-iterate-p) c.if-p.true
