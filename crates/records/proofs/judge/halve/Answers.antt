-- `records::judge::halve` meets its contract. The loop's invariant: the first i places have taken their numbers. The measure is what is left of the
-- places. Assumes nothing.
use mathlib.Core.Path.{refl, sym, ◌∙◌}
use native.Mathlib.Omega.{arith}
use Rattle.tables.proofs.Filled.{fill_none, fill_more, fill-all}
use Rattle.records.specs.Parts.{half_of}
use Rattle.records.proofs.Pairs.{length-half, half_at}
use Rattle.records.proofs.judge.halve.Goals as goal

pub loop-i-init : goal.loop-i-init
loop-i-init c = fill_none _ _

pub loop-i-preserved : goal.loop-i-preserved
loop-i-preserved c = fill_more _ c.loop-i.invariant (omega arith) refl

pub returns : goal.returns
returns c =
    let a = c.args in
    fill-all (half_of a.which a.pairs.now) c.loop-i.invariant (omega arith) (length-half a.which a.pairs.now ∙ sym c.requires.each)
    (half_at a.which c.requires.two a.pairs.now)

pub overflow_mul-to : goal.overflow_mul-to
overflow_mul-to c = omega (arith, c.requires.two)

pub overflow_add-to : goal.overflow_add-to
overflow_add-to c = omega (arith, c.requires.two)

pub offset_bounds-pairs-i : goal.offset_bounds-pairs-i
offset_bounds-pairs-i c = omega (arith, c.requires.two)

pub bounds-pairs-i : goal.bounds-pairs-i
bounds-pairs-i c = omega (arith, c.requires.two)
