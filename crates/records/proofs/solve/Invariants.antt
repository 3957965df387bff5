-- `records::solve` meets its contract. The loop's invariant: the array has the first e records, and its other places a 0.
use Rattle.std.proofs.Common.{◌≡◌}
use Rattle.records.proofs.Copying.{filled}
use Rattle.records.proofs.solve.Given as goal

abbrev pub invariant-loop-e : goal.invariant-loop-e
invariant-loop-e l = l.net ≡ filled l.arcs l.e
