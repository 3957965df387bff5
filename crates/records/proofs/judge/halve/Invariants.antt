-- `records::judge::halve` meets its contract. The loop's invariant: the first i places have taken their numbers. Assumes nothing.
use Prim.Native.Nat.{◌+◌, ◌*◌}
use lib.ListN.{get_or}
use Rattle.tables.proofs.Filled.{Filling}
use Rattle.records.proofs.judge.halve.Given as goal

abbrev pub invariant-loop-i : goal.invariant-loop-i
invariant-loop-i l = Filling (λ k. get_or l.pairs (2 * k + l.which) 0) l.i l.initial.to l.to
