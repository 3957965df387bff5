-- `lines::words::number` meets its contract: x is the value of the digits before b.
-- Assumes nothing.
use Rattle.lines.proofs.Digits.{DigitsRead}
use Rattle.lines.proofs.words.number.Given as goal

abbrev pub invariant-loop-b : goal.invariant-loop-b
invariant-loop-b l = DigitsRead l.word l.b-index l.x
