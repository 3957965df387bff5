-- `solver::start::prepare` meets its contract: the cleared tables are the definition's start. Assumes nothing.
use mathlib.Core.Path.{◌≡◌, sym, subst, ◌∙◌}
use Prim.Native.Nat.{ℕ, ◌≤◌}
use native.Mathlib.Omega.{arith}
use Rattle.bounds.specs.Bounds.{most_arcs}
use Rattle.network.proofs.Resources.{resource-capacities-length}
use Rattle.network.proofs.Sounds.{sound-ends, resource-capacity-within}
use Rattle.method.specs.Iteration.{initial, weight}
use Rattle.packed.specs.Packed.{part, put, net_in, lengths_from, loads_from, kept_from}
use Rattle.packed.proofs.Columns.{part_length, commodities-is}
use Rattle.memory.proofs.Forgets.{begun-ordered, forgotten-memory}
use Rattle.lengths.specs.Calls.{Startable}
use Rattle.step.specs.Progress.{state_of, begun}
use Rattle.step.proofs.Tabled.{Tabled, tabled, part-size, with-lengths, with-loads, with-kept, in-slice}
use Rattle.solver.proofs.Solving.{initial-is, weight_is}
use Rattle.solver.proofs.start.prepare.Goals as goal
use Rattle.solver.proofs.start.prepare.Goals.{After-fill, After-fill-2, After-start-weight, Start}

abbrev m : Start → ℕ
m s = s.args.net.now.shape.resources

few : (s : Start) → m s ≤ most_arcs
few s = let a = s.requires.lent in omega (arith, a.counted, a.sound.counts.of-resources)

pub start-weight-requires : goal.start-weight-requires
start-weight-requires c =
    let a = c.requires.lent in
    let net = net_in c.args.net.now.shape c.args.net.now.numbers.now in
    let T = c.args.tables.now in
    subst (λ caps. Startable caps (part lengths_from (m (goal.at.start-weight-requires c).Start) T)) (sym c.requires.caps-are)
    (record {
      same = part_length lengths_from (m (goal.at.start-weight-requires c).Start) T (omega (arith, few (goal.at.start-weight-requires c).Start, c.requires.tabled)) ∙ (a.counted ∙ sym (resource-capacities-length net));
      arcs = omega (arith, resource-capacities-length net, a.sound.counts.of-resources);
      sizes =
          record {
            least = λ e l. (resource-capacity-within net c.args.q a.sound e (omega (arith, resource-capacities-length net))).least;
            most = λ e l. (resource-capacity-within net c.args.q a.sound e (omega (arith, resource-capacities-length net))).most;
          };
    })

-- the tables of the resources after each call that changes them
started : (c : After-start-weight) → let T = c.args.tables.now in
    Tabled (m (goal.at.After-start-weight c).Start) (put lengths_from (m (goal.at.After-start-weight c).Start) T c.start-weight.new.lengths) c.start-weight.new.lengths (part loads_from (m (goal.at.After-start-weight c).Start) T) (part kept_from (m (goal.at.After-start-weight c).Start) T)
started c =
    with-lengths (tabled (m (goal.at.After-start-weight c).Start) c.args.tables.now (few (goal.at.After-start-weight c).Start) c.requires.tabled) c.start-weight.new.lengths c.start-weight.auto.lengths

unloaded : (c : After-fill) → let T = c.args.tables.now in
    Tabled (m (goal.at.After-fill c).Start) (put loads_from (m (goal.at.After-fill c).Start) (put lengths_from (m (goal.at.After-fill c).Start) T c.start-weight.new.lengths) c.fill.new.self) c.start-weight.new.lengths c.fill.new.self (part kept_from (m (goal.at.After-fill c).Start) T)
unloaded c = with-loads (started (goal.at.After-fill c).After-start-weight) c.fill.new.self c.fill.auto.self

cleared : (c : After-fill-2) → let T = c.args.tables.now in
    Tabled (m (goal.at.After-fill-2 c).Start) (put kept_from (m (goal.at.After-fill-2 c).Start) (put loads_from (m (goal.at.After-fill-2 c).Start) (put lengths_from (m (goal.at.After-fill-2 c).Start) T c.start-weight.new.lengths) c.fill.new.self) c.fill-2.new.self) c.start-weight.new.lengths
    c.fill.new.self c.fill-2.new.self
cleared c = with-kept (unloaded (goal.at.After-fill-2 c).After-fill) c.fill-2.new.self c.fill-2.auto.self

pub returns : goal.returns
unfolding net_in
returns c =
    let z = c.args in let p = c.requires in let net = net_in z.net.now.shape z.net.now.numbers.now in
    record {
      state =
          in-slice (cleared (goal.at.returns c).After-fill-2) (λ L Y K. state_of L c.fill-3.new.self Y K begun ≡ initial net)
          (initial-is net p.caps-are c.start-weight.ensures.lengths (c.fill.ensures.after (λ y e. e)) (c.fill-2.ensures.after (λ y e. e)) (c.fill-3.ensures.after (λ y e. e))
          p.lent.counted (part-size (started (goal.at.returns c).After-start-weight) loads_from (omega arith)) (part-size (unloaded (goal.at.returns c).After-fill) kept_from (omega arith)) p.flows);
      memory-of =
          forgotten-memory (sound-ends net z.q p.lent.sound) p.lent.sound.counts.of-nodes.most p.lent.packed.few-commodities
          (sym (commodities-is p.lent.packed)) p.lent.sound.counts.of-commodities.least
          (omega (arith, c.forget.auto.memory, c.begin.auto.memory, p.memorised)) (begun-ordered c.begin.ensures) c.forget.ensures _;
      weight =
          in-slice (cleared (goal.at.returns c).After-fill-2) (λ L Y K. c.start-weight.result ≡ weight net L) (weight_is net p.caps-are c.start-weight.new.lengths c.start-weight.ensures.weight);
    }
