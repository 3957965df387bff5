-- `numbers::write_all` meets its contract. The loop's invariant: the first i numbers of `xs` are written.
-- Assumes nothing.
use mathlib.Core.Path.{◌≡◌}
use mathlib.Core.List.{map}
use lib.ListN.{take}
use Rattle.numbers.specs.Numbers.{written}
use Rattle.numbers.proofs.write_all.Given as goal

abbrev pub invariant-loop-i : goal.invariant-loop-i
invariant-loop-i g l = l.s ≡ written l.initial.s (map g.T.Number.bits (take l.i l.xs))
