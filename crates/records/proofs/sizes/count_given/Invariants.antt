-- `records::sizes::count_given` meets its contract. The loop's invariant: so many of the first i are not 0.
-- Assumes nothing.
use mathlib.Core.Path.{◌≡◌}
use Rattle.network.specs.Given.{given}
use Rattle.records.proofs.sizes.count_given.Given as goal

abbrev pub invariant-loop-i : goal.invariant-loop-i
invariant-loop-i l = l.r ≡ given l.limits l.i
