-- `numbers::write_all` meets its contract. Assumes nothing.
use mathlib.Core.Path.{refl}
use Rattle.numbers.specs.Numbers.{encode, written}
use Rattle.numbers.proofs.Tables.{written-more}
use Rattle.numbers.proofs.write_all.Goals as goal

pub loop-i-init : goal.loop-i-init
unfolding written encode
loop-i-init g c = refl

pub loop-i-preserved : goal.loop-i-preserved
loop-i-preserved g c =
    rw (c.write.ensures, c.bits.ensures, c.loop-i.invariant)
    (written-more _ c.args.s.now c.args.xs.now c.loop-i.i c.index-xs-i.result c.loop-i-test.true c.index-xs-i.is)
