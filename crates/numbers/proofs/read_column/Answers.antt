-- `numbers::read_column` meets its contract. Assumes nothing.
use mathlib.Core.Path.{refl}
use Rattle.numbers.specs.Numbers.{column}
use Rattle.numbers.proofs.Columns.{column-more}
use Rattle.numbers.proofs.read_column.Goals as goal

pub loop-i-init : goal.loop-i-init
unfolding column
loop-i-init c = refl

pub loop-i-preserved : goal.loop-i-preserved
loop-i-preserved c =
    rw (c.loop-i.invariant, c.read.ensures)
    (column-more c.args.s.now c.args.out.now c.args.k c.args.j c.loop-i.i c.loop-i-test.true)
