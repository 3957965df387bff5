-- `dimacs::reader::read` meets its contract: the lines so far, and those that are left, come to what the file comes to.
-- Assumes nothing.
use Rattle.std.specs.Slice.Iter.{split_inclusive_rest}
use Rattle.dimacs.proofs.LineByLine.{ReadTo}
use Rattle.dimacs.proofs.reader.read.Given as goal

abbrev pub invariant-loop-line : goal.invariant-loop-line
invariant-loop-line l = ReadTo l.text (split_inclusive_rest l.line-iterator) l.place l.tally l.tails l.heads l.capacities
