-- `deliver::deliver` meets its contract: tables, answer and running count take their parts of the outcome. Assumes nothing.
use mathlib.Core.Path.{ap}
use native.Mathlib.Omega.{arith}
use Rattle.call.proofs.Counting.{count_small}
use Rattle.deliver.proofs.deliver.Goals as goal

pub raise_count-requires : goal.raise_count-requires
raise_count-requires c = (
  c.requires.room.for-counts,
  omega (
    arith,
    c.requires.room.full,
    count_small _ c.args.q c.requires.lent.sound _ c.write_tables-a.ensures.guarantee,
    ap (λ a. a.count) c.write_tables-a.ensures.answers,
  ),
)
