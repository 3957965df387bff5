-- `numbers::read_column` meets its contract. The loop's invariant: the first i entries of the column stand over `out`'s own first i.
-- Assumes nothing.
use mathlib.Core.Path.{◌≡◌}
use mathlib.Core.List.{◌++◌}
use lib.ListN.{drop}
use Rattle.numbers.specs.Numbers.{column}
use Rattle.numbers.proofs.read_column.Given as goal

abbrev pub invariant-loop-i : goal.invariant-loop-i
invariant-loop-i l = l.out ≡ column l.s l.k l.j l.i ++ drop l.i l.initial.out
