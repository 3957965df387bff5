-- `solver::start::index_all` meets its contract. Assumes nothing.
use Rattle.packed.specs.Packed.{put, net_in}
use Rattle.packed.proofs.Columns.{part_length}
use Rattle.index.specs.Index.{index_numbers}
use Rattle.choice.specs.Calls.{resource_capacities_from}
use Rattle.solver.proofs.Indexes.{space, indexed}
use Rattle.solver.proofs.start.index_all.Goals as goal

pub resource_capacities-requires : goal.resource_capacities-requires
resource_capacities-requires c =
    let a = c.requires.indexable in
    record {
      packed = a.packed;
      counted = a.counted;
      whole =
          part_length resource_capacities_from c.args.net.now.shape.resources
          (put index_numbers index_numbers (put 0 index_numbers c.args.indexes.now c.index_into.new.ix) c.index_out.new.ix)
          (space c.args.indexes.now c.index_into.new.ix c.index_out.new.ix c.args.net.now.shape.resources c.requires.few c.requires.room
          c.index_into.auto.ix c.index_out.auto.ix);
    }

pub returns : goal.returns
returns c =
    indexed c.args.indexes.now c.index_into.new.ix c.index_out.new.ix c.args.net.now.shape.resources c.requires.few c.requires.room
    c.index_into.auto.ix c.index_out.auto.ix (net_in c.args.net.now.shape c.args.net.now.numbers.now) c.requires.indexable.counted
    c.resource_capacities.new.table c.resource_capacities.auto.table c.index_into.ensures c.index_out.ensures c.resource_capacities.ensures
