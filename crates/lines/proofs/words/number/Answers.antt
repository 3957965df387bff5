-- `lines::words::number` meets its contract: x is the value of the digits before b.
-- Assumes nothing.
use native.Mathlib.Omega.{arith}
use Rattle.std.proofs.Common.{tests}
use Rattle.lines.proofs.Digits.{digit-in, digit-below, digit-above, digit-read, number_read, no_number, no_size, too_long}
use Rattle.lines.proofs.words.number.Goals as goal
use Rattle.lines.proofs.words.number.Goals.{then-is_empty-via-then-is_empty, then-is_empty-via-else-is_empty+then-word-gt-MOST_DIGITS}

pub returns-then-is_empty : goal.returns-then-is_empty
returns-then-is_empty c =
    elim c.then-is_empty.branch [
      | then-is_empty-via-then-is_empty w ↦ no_size _ (grind (arith, tests))
      | then-is_empty-via-else-is_empty+then-word-gt-MOST_DIGITS w ↦ too_long _ (omega arith)
    ]

pub returns-in_default : goal.returns-in_default
returns-in_default c = no_number _ _ _ c.loop-b.invariant (omega arith) (digit-below _ (omega arith))

pub returns-in_default-2 : goal.returns-in_default-2
returns-in_default-2 c = no_number _ _ _ c.loop-b.invariant (omega arith) (digit-above _ (omega arith))

pub loop-b-preserved : goal.loop-b-preserved
loop-b-preserved c = rw c.from.ensures (digit-read _ _ _ c.loop-b.invariant (omega arith) (digit-in _ (omega arith) (omega arith)))

pub returns : goal.returns
returns c = number_read _ _ _ c.loop-b.invariant (omega arith)
