-- `whole::put_totes` meets its contract. The loop's invariant: the numbers of the pairs before i are written.
-- Assumes nothing.
use mathlib.Core.Path.{◌≡◌}
use Rattle.numbers.specs.Numbers.{written}
use Rattle.whole.specs.Read.{sent_in}
use Rattle.whole.specs.Whole.{parted}
use Rattle.whole.proofs.put_totes.Given as goal

abbrev pub invariant-loop-i : goal.invariant-loop-i
invariant-loop-i l = l.totes ≡ written l.initial.totes (parted l.capacity l.load (sent_in l.floor.belts.now l.floor.pairs.now l.tables.flow.now) l.i)
