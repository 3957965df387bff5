-- `solver::start::solve_in` meets its contract: the indexes are made, the tables cleared, and the rest is the outcome's. Assumes nothing.
use mathlib.Core.Path.{ap, ◌∙◌}
use native.Mathlib.Omega.{arith}
use Rattle.network.proofs.Sounds.{sound-ends}
use Rattle.packed.specs.Packed.{part, net_in}
use Rattle.choice.specs.Calls.{resource_capacities_from}
use Rattle.solver.proofs.start.solve_in.Goals as goal

pub index_all-requires : goal.index_all-requires
unfolding net_in
index_all-requires c =
    let p = c.requires in
    let a = p.lent in
    record {
      indexable = record { packed = a.packed; ends = sound-ends _ _ a.sound; nodes = a.sound.counts.of-nodes.most; counted = a.counted; numbers = omega arith };
      few = omega (arith, a.counted, a.sound.counts.of-resources);
      room = p.indexes-of;
    }

pub prepare-weight-requires : goal.prepare-weight-requires
prepare-weight-requires c =
    let p = c.requires in
    record {
      lent = p.lent;
      caps-are = ap (λ n. part resource_capacities_from n c.index_all.new.indexes) p.lent.counted ∙ c.index_all.ensures.capacities;
      flows = p.flows;
      tabled = p.tabled;
      memorised = p.memorised;
    }

pub outcome-requires : goal.outcome-requires
outcome-requires c =
    let p = c.requires in
    record {
      room = record {
        lent = p.lent;
        indexed = c.index_all.ensures;
        tables = omega (arith, c.prepare-weight.auto.tables, p.tabled);
        path = p.path-of;
      };
      cleared = c.prepare-weight.ensures;
    }

pub shape_of-indexes : goal.shape_of-indexes
shape_of-indexes c = c.index_all.auto.indexes

pub shape_of-flow : goal.shape_of-flow
shape_of-flow c = c.outcome.auto.flow ∙ c.prepare-weight.auto.flow

pub shape_of-tables : goal.shape_of-tables
shape_of-tables c = c.outcome.auto.tables ∙ c.prepare-weight.auto.tables

pub shape_of-memory : goal.shape_of-memory
shape_of-memory c = c.outcome.auto.memory ∙ c.prepare-weight.auto.memory
