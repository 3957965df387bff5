-- `choice::lazy::nearest` meets its contract: the bounds stay below the paths, and rise until the walk of the least is as long. Assumes nothing.
use mathlib.Core.Path.{◌≡◌, sym, ◌∙◌}
use mathlib.Core.Logic.{◌⊎◌, inl, inr}
use mathlib.Core.List.{List}
use Prim.Native.Nat.{ℕ, ◌+◌, ◌<◌}
use native.Mathlib.Omega.{arith}
use lib.ListN.{get_or}
use Rattle.std.specs.Prelude.{IsSome}
use Rattle.network.specs.Network.{Network, commodities, sink}
use Rattle.packed.specs.Packed.{net_in, sinks_from}
use Rattle.packed.proofs.Columns.{commodities-is, part_at}
use Rattle.memory.specs.Memory.{bounds_in, distances_in}
use Rattle.choice.specs.Looked.{Looked, Followed}
use Rattle.choice.proofs.Turns.{turn-falls, turn-noted}
use Rattle.choice.proofs.lazy.nearest.Goals as goal
use Rattle.choice.proofs.lazy.nearest.Goals.{Joined-then-is_some, then-is_some-via-then-is_some, then-is_some-via-else-is_some+then-net-i, After-follow-arcs, After-look-i, At-loop-arcs, Start}

abbrev net : Start → Network
net s = net_in s.args.net.now.shape s.args.net.now.numbers.now

-- the memory behind the search, and the path behind the walk
abbrev memory-at : After-look-i → List ℕ
memory-at c = c.look-i.new.memory

abbrev path-at : After-follow-arcs → List ℕ
path-at c = c.follow-arcs.new.path

-- a commodity is one of few, and its sink is read
module _ (s : Start) {i : ℕ} (b : i < commodities (net s)) where
  to : get_or s.args.net.now.numbers.now (sinks_from + i) 0 ≡ sink (net s) i
  unfolding net_in
  to = sym (part_at sinks_from s.args.net.now.shape.commodities s.args.net.now.numbers.now i (omega (arith, commodities-is s.requires.packed)))

among : (c : At-loop-arcs) → c.loop-arcs.i < commodities (net (goal.at.At-loop-arcs c).Start)
among c = c.loop-arcs.invariant.least.among

-- what the search and the walk have found
looks : (c : After-look-i) → Looked c.args.net.now.shape (net (goal.at.After-look-i c).Start) c.args.lengths.now (sink (net (goal.at.After-look-i c).Start) c.loop-arcs.i) c.loop-arcs.memory (memory-at c) c.look-i.result
looks c = rw (← to (goal.at.After-look-i c).Start (among (goal.at.After-look-i c).At-loop-arcs)) c.look-i.ensures

follows : (c : After-follow-arcs) → let j = c.look-i.result in
    Followed (net (goal.at.After-follow-arcs c).Start) c.args.lengths.now (bounds_in c.args.net.now.shape (memory-at (goal.at.After-follow-arcs c).After-look-i)) (distances_in (sink (net (goal.at.After-follow-arcs c).Start) j) (memory-at (goal.at.After-follow-arcs c).After-look-i)) j (path-at c) c.follow-arcs.result
follows c = c.follow-arcs.ensures

chosen : (c : After-look-i) → c.look-i.result < commodities (net (goal.at.After-look-i c).Start)
chosen c = (looks c).known.least.among

pub look-i-requires : goal.look-i-requires
look-i-requires c =
    let p = c.requires in
    record {
      packed = p.packed;
      survey = p.survey;
      index = p.indexed.into;
      known = c.loop-arcs.invariant;
      to = to (goal.at.look-i-requires c).Start (among (goal.at.look-i-requires c).At-loop-arcs);
    }

pub loop-arcs-smaller : goal.loop-arcs-smaller
loop-arcs-smaller c =
    turn-falls c.requires.survey c.loop-arcs.invariant (looks (goal.at.loop-arcs-smaller c).After-look-i)
    (λ q. c.if-net-i.false (to (goal.at.loop-arcs-smaller c).Start (chosen (goal.at.loop-arcs-smaller c).After-look-i) ∙ (q ∙ sym (to (goal.at.loop-arcs-smaller c).Start (among (goal.at.loop-arcs-smaller c).At-loop-arcs)))))

-- the walk has arrived, or the sink is the one searched
ended : (c : Joined-then-is_some) → IsSome c.follow-arcs.result ⊎ (sink (net (goal.at.Joined-then-is_some c).Start) c.look-i.result ≡ sink (net (goal.at.Joined-then-is_some c).Start) c.loop-arcs.i)
ended c =
    elim c.then-is_some.branch [
      | then-is_some-via-then-is_some w ↦ inl (sym c.is_some.ensures ∙ w.if-is_some.true)
      | then-is_some-via-else-is_some+then-net-i w ↦
          inr (sym (to (goal.at.Joined-then-is_some c).Start (chosen (goal.at.Joined-then-is_some c).After-look-i)) ∙
          (w.if-net-i.true ∙ to (goal.at.Joined-then-is_some c).Start (among (goal.at.Joined-then-is_some c).At-loop-arcs)))
    ]

pub returns : goal.returns
returns c =
    turn-noted c.requires.survey c.loop-arcs.invariant (looks (goal.at.returns c).After-look-i) _ c.follow-arcs.result (follows (goal.at.returns c).After-follow-arcs) (ended (goal.at.returns c).Joined-then-is_some) c.requires.packed.few-commodities
