-- `run::iterations::iterate` meets its contract: the search gives the method's choice, and the step follows it. Assumes nothing.
use mathlib.Core.Path.{◌≡◌, refl, sym, ap, subst, ◌∙◌}
use mathlib.Core.Option.{some}
use mathlib.Core.List.{List}
use Prim.Native.Nat.{ℕ, ◌≤◌}
use native.Mathlib.Omega.{arith}
use lib.ListN.{length, take}
use lib.Seq.{length-take-le}
use Rattle.std.proofs.lemmas.Option.{MatchOption-at_some}
use Rattle.network.specs.Network.{Network}
use Rattle.network.specs.Path.{path_length}
use Rattle.network.proofs.Sounds.{sound-ends}
use Rattle.packed.specs.Packed.{part, net_in}
use Rattle.packed.proofs.Columns.{commodities-is}
use Rattle.method.specs.Choice.{Choice, choice}
use Rattle.method.specs.Iteration.{State}
use Rattle.method.proofs.Ends.{underway-reached}
use Rattle.method.proofs.Reached.{Reached}
use Rattle.choice.specs.Calls.{resource_capacities_from}
use Rattle.choice.specs.Chose.{Picked}
use Rattle.step.specs.Progress.{state_in}
use Rattle.step.specs.Steps.{chosen_in, Stepping}
use Rattle.run.specs.Noted.{Kept}
use Rattle.run.proofs.Chosen.{choosing, picks, selected-uses, selected-chosen}
use Rattle.run.proofs.Iterated.{iterated}
use Rattle.run.proofs.Longer.{memory-next}
use Rattle.run.proofs.Noted.{kept-ready}
use Rattle.run.proofs.Ready.{ready}
use Rattle.run.proofs.iterations.iterate.Goals as goal
use Rattle.run.proofs.iterations.iterate.Goals.{After-unwrap-c, After-keep, Start}

-- the network and the state at entry
abbrev net : Start → Network
net s = net_in s.args.net.now.shape s.args.net.now.numbers.now

abbrev state : Start → State
state s = state_in s.args.net.now.shape s.args.flow.now s.args.tables.now s.args.p

reached : (s : Start) → Reached (net s) s.args.q (state s)
reached s =
    underway-reached (net s) s.args.q s.requires.room.lent.sound s.requires.iterating.chooses (state s) s.requires.iterating.underway

pub choose-requires : goal.choose-requires
choose-requires c =
    choosing c.requires.room (state (goal.at.choose-requires c).Start) (reached (goal.at.choose-requires c).Start) refl c.requires.iterating.memory-of

abbrev path : After-unwrap-c → List ℕ
path c = c.choose.new.path

abbrev used : After-unwrap-c → List ℕ
used c = take c.unwrap-c.result.used (path c)

abbrev chosen : After-unwrap-c → Choice
chosen c = chosen_in c.unwrap-c.result (used c)

pub unwrap-c-requires : goal.unwrap-c-requires
unwrap-c-requires c =
    picks (net (goal.at.unwrap-c-requires c).Start) c.requires.iterating.chooses (state (goal.at.unwrap-c-requires c).Start).lengths c.choose.result c.choose.new.path c.choose.ensures.chose

picked : (c : After-unwrap-c) → Picked (net (goal.at.After-unwrap-c c).Start) (state (goal.at.After-unwrap-c c).Start).lengths c.unwrap-c.result (path c)
picked c = MatchOption-at_some _ _ _ c.unwrap-c.ensures c.choose.ensures.chose

room : (c : After-unwrap-c) → c.unwrap-c.result.used ≤ length (path c)
room c = omega (arith, (picked c).few-used, c.choose.auto.path, c.requires.room.path)

is-chosen : (c : After-unwrap-c) → choice (net (goal.at.After-unwrap-c c).Start) (state (goal.at.After-unwrap-c c).Start).lengths ≡ some (chosen c)
is-chosen c = selected-chosen (net (goal.at.After-unwrap-c c).Start) (state (goal.at.After-unwrap-c c).Start).lengths c.unwrap-c.result (path c) (picked c) (room c)

pub slice_bounds-step-end-2 : goal.slice_bounds-step-end-2
slice_bounds-step-end-2 c = room (goal.at.slice_bounds-step-end-2 c).After-unwrap-c

pub slice_bounds-step-end-3 : goal.slice_bounds-step-end-3
slice_bounds-step-end-3 c =
    sym (length-take-le c.unwrap-c.result.used (path (goal.at.slice_bounds-step-end-3 c).After-unwrap-c) (room (goal.at.slice_bounds-step-end-3 c).After-unwrap-c))

pub step-r-requires : goal.step-r-requires
step-r-requires c =
    let a = c.requires.room.lent in
    let uses = selected-uses (net (goal.at.step-r-requires c).Start) (state (goal.at.step-r-requires c).Start).lengths c.unwrap-c.result (path (goal.at.step-r-requires c).After-unwrap-c) (picked (goal.at.step-r-requires c).After-unwrap-c) (room (goal.at.step-r-requires c).After-unwrap-c) in
    record {
      packed = a.packed;
      counted = a.counted;
      few = omega (arith, a.counted, a.sound.counts.of-resources);
      places = c.requires.room.tables;
      caps-are = ap (λ n. part resource_capacities_from n c.args.indexes.now) a.counted ∙ c.requires.room.indexed.capacities;
      arcs-first = omega (arith, (picked (goal.at.step-r-requires c).After-unwrap-c).some_more, length-take-le c.unwrap-c.result.used (path (goal.at.step-r-requires c).After-unwrap-c) (room (goal.at.step-r-requires c).After-unwrap-c));
      path-is = uses;
      stepping =
          rw (← (picked (goal.at.step-r-requires c).After-unwrap-c).alpha) (subst (λ p. Stepping (net (goal.at.step-r-requires c).Start) c.args.q (chosen (goal.at.step-r-requires c).After-unwrap-c) (path_length (state (goal.at.step-r-requires c).Start).lengths p) (state (goal.at.step-r-requires c).Start)) (sym uses)
          (ready (net (goal.at.step-r-requires c).Start) c.args.q a.sound (state (goal.at.step-r-requires c).Start) (reached (goal.at.step-r-requires c).Start) (chosen (goal.at.step-r-requires c).After-unwrap-c) (is-chosen (goal.at.step-r-requires c).After-unwrap-c)));
      kept = kept-ready (net (goal.at.step-r-requires c).Start) c.args.q a.sound (state (goal.at.step-r-requires c).Start) (reached (goal.at.step-r-requires c).Start) c.args.threshold c.args.p c.requires.iterating.noted;
    }

pub keep-requires : goal.keep-requires
unfolding net_in
keep-requires c =
    (c.requires.room.lent.packed.few-nodes, c.choose.ensures.memory-of.places)

-- what was kept, of the network's nodes
kept : (c : After-keep) → Kept c.step-r.result.halved (net (goal.at.After-keep c).Start).nodes c.choose.new.memory c.keep.new.memory
unfolding net_in
kept c = c.keep.ensures

pub returns : goal.returns
returns c =
    let z = c.args in
    let a = c.requires.room.lent in
    record {
      iterated =
          iterated (net (goal.at.returns c).Start) z.q z.threshold c.requires.iterating.noted.threshold (state (goal.at.returns c).Start) (reached (goal.at.returns c).Start).valid.table.places (chosen (goal.at.returns c).After-unwrap-c) (is-chosen (goal.at.returns c).After-unwrap-c) _ _ c.step-r.ensures;
      memory-of =
          memory-next (net (goal.at.returns c).Start) z.q (chosen (goal.at.returns c).After-unwrap-c) (state (goal.at.returns c).Start) (reached (goal.at.returns c).Start).valid.lengths c.step-r.result.halved (sound-ends (net (goal.at.returns c).Start) z.q a.sound)
          a.sound.counts.of-nodes.most a.packed.few-commodities (sym (commodities-is a.packed)) c.choose.ensures.memory-of c.keep.auto.memory
          c.step-r.ensures.halved (ap (λ x. x.lengths) c.step-r.ensures.state) (kept (goal.at.returns c).After-keep);
    }
