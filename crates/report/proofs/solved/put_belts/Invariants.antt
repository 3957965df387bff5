-- `report::solved::put_belts` meets its contract. The loop's invariant: the rows of the first e arcs are put, into the same table.
-- Assumes nothing.
use mathlib.Core.Path.{◌≡◌}
use Rattle.report.specs.Shown.{belt_of}
use Rattle.report.proofs.Rowed.{Rowed}
use Rattle.report.proofs.solved.put_belts.Given as goal

abbrev pub invariant-loop-e : goal.invariant-loop-e
invariant-loop-e l =
    record {
      rowed : Rowed (belt_of l.tails l.heads l.flow l.a l.y) l.e l.initial.rows.out.now l.initial.rows.at l.rows.out.now l.rows.at;
      same_table : l.rows.out.ghost_name ≡ l.initial.rows.out.ghost_name;
    }
