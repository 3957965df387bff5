-- `solver::outcomes::outcome` meets its contract: where something is chosen the run's tables are the outcome's, else those of the start.
-- Assumes nothing.
use mathlib.Core.Path.{◌≡◌, sym, ap, subst, ◌∙◌}
use mathlib.Core.Option.{some}
use mathlib.Core.List.{List}
use Prim.Native.Nat.{ℕ, ◌≤◌}
use native.Mathlib.Omega.{arith}
use lib.ListN.{length}
use Rattle.bounds.specs.Bounds.{most_arcs}
use Rattle.network.specs.Network.{Network}
use Rattle.network.specs.Resources.{resources, resource_capacities}
use Rattle.packed.specs.Packed.{part, net_in, lengths_in, loads_in, kept_in, loads_from, table_numbers}
use Rattle.packed.proofs.Columns.{part_length}
use Rattle.method.specs.Choice.{Choice, choice}
use Rattle.method.specs.Iteration.{initial}
use Rattle.method.proofs.Guaranteed.{always}
use Rattle.method.proofs.Reached.{reached-start}
use Rattle.choice.specs.Calls.{resource_capacities_from}
use Rattle.choice.specs.Chose.{Chose}
use Rattle.run.specs.Runs.{Chooses}
use Rattle.run.proofs.Chosen.{choosing}
use Rattle.tables.specs.Calls.{Ranking}
use Rattle.solver.specs.Solved.{answer_of}
use Rattle.solver.proofs.Solving.{chose-none, chose-some, solved-none, solved-some, ranking}
use Rattle.solver.proofs.outcomes.outcome.Goals as goal
use Rattle.solver.proofs.outcomes.outcome.Goals.{After-choose-first, After-run-p, Else-is_none, Start}

-- the network at entry; the lengths are those of the definition's start
abbrev net : Start → Network
net s = net_in s.args.net.now.shape s.args.net.now.numbers.now

first : (s : Start) → lengths_in s.args.net.now.shape s.args.tables.now ≡ (initial (net s)).lengths
first s = ap (λ t. t.lengths) s.requires.cleared.state

pub choose-first-requires : goal.choose-first-requires
choose-first-requires c =
    choosing c.requires.room (initial (net (goal.at.choose-first-requires c).Start)) (reached-start (net (goal.at.choose-first-requires c).Start) c.args.q c.requires.room.lent.sound) (first (goal.at.choose-first-requires c).Start) c.requires.cleared.memory-of

chose : (c : After-choose-first) → Chose (net (goal.at.After-choose-first c).Start) (initial (net (goal.at.After-choose-first c).Start)).lengths c.choose-first.result c.choose-first.new.path
chose c = rw (← (first (goal.at.After-choose-first c).Start)) c.choose-first.ensures.chose

pub returns-then-is_none : goal.returns-then-is_none
returns-then-is_none c =
    let k = chose (goal.at.returns-then-is_none c).After-choose-first in
    let start = c.requires.cleared.state in
    rw c.unjoined.ensures
    (solved-none (net (goal.at.returns-then-is_none c).Start) c.args.q c.requires.room.lent.sound c.args.flow.now (kept_in c.args.net.now.shape c.args.tables.now)
    (chose-none _ _ _ c.choose-first.result k (rw c.if-is_none.true at c.is_none.ensures))
    (ap (λ t. t.flow) start)
    (ap (λ t. t.best_lengths) start))

-- something is chosen
picked : (c : Else-is_none) → (k : Choice) × (choice (net (goal.at.Else-is_none c).Start) (initial (net (goal.at.Else-is_none c).Start)).lengths ≡ some k)
picked c = chose-some _ _ _ c.choose-first.result (chose (goal.at.Else-is_none c).After-choose-first) (rw c.if-is_none.false at c.is_none.ensures)

chooses : (c : Else-is_none) → Chooses (net (goal.at.Else-is_none c).Start)
chooses c = always (net (goal.at.Else-is_none c).Start) (initial (net (goal.at.Else-is_none c).Start)).lengths (picked c).0 (picked c).1

pub run-p-requires-clause-starting : goal.run-p-requires-clause-starting
run-p-requires-clause-starting c =
    let k = c.requires.cleared in
    record {
      memory-of = c.choose-first.ensures.memory-of;
      chooses = chooses (goal.at.run-p-requires-clause-starting c).Else-is_none;
      start = k.state;
      weight = k.weight;
    }

abbrev tables : After-run-p → List ℕ
tables c = c.run-p.new.tables

room : (c : After-run-p) → table_numbers ≤ length (tables c)
room c = omega (arith, c.run-p.auto.tables, c.requires.room.tables)

few : (c : After-run-p) → c.args.net.now.shape.resources ≤ most_arcs
few c = let a = c.requires.room.lent in omega (arith, a.counted, a.sound.counts.of-resources)

loaded : (c : After-run-p) → length (loads_in c.args.net.now.shape (tables c)) ≡ resources (net (goal.at.After-run-p c).Start)
loaded c =
    part_length loads_from c.args.net.now.shape.resources (tables c) (omega (arith, few c, room c)) ∙ c.requires.room.lent.counted

-- The part of the slice of indexes that is lent has the capacities of the resources.
caps-are : (c : After-run-p) → part resource_capacities_from c.args.net.now.shape.resources c.args.indexes.now ≡ resource_capacities (net (goal.at.After-run-p c).Start)
caps-are c = ap (λ n. part resource_capacities_from n c.args.indexes.now) c.requires.room.lent.counted ∙ c.requires.room.indexed.capacities

pub answer-requires : goal.answer-requires
answer-requires c =
    record {
      few = few (goal.at.answer-requires c).After-run-p;
      places = room (goal.at.answer-requires c).After-run-p;
      ranking =
          subst (Ranking (loads_in c.args.net.now.shape (tables (goal.at.answer-requires c).After-run-p))) (sym (caps-are (goal.at.answer-requires c).After-run-p))
          (ranking (net (goal.at.answer-requires c).Start) c.args.q c.requires.room.lent.sound (chooses (goal.at.answer-requires c).Else-is_none) (loads_in c.args.net.now.shape (tables (goal.at.answer-requires c).After-run-p)) (ap (λ t. t.loads) c.run-p.ensures) (loaded (goal.at.answer-requires c).After-run-p));
    }

pub returns : goal.returns
returns c =
    rw (c.answer.ensures ∙ ap (λ caps. answer_of caps (loads_in c.args.net.now.shape (tables (goal.at.returns c).After-run-p)) c.run-p.result) (caps-are (goal.at.returns c).After-run-p))
    (solved-some (net (goal.at.returns c).Start) c.args.q c.requires.room.lent.sound _ (picked (goal.at.returns c).Else-is_none).1 c.run-p.new.flow (kept_in c.args.net.now.shape (tables (goal.at.returns c).After-run-p))
    (loads_in c.args.net.now.shape (tables (goal.at.returns c).After-run-p)) (lengths_in c.args.net.now.shape (tables (goal.at.returns c).After-run-p)) c.run-p.result c.run-p.ensures (loaded (goal.at.returns c).After-run-p))
