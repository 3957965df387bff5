-- `whole::put_totes` meets its contract. Assumes nothing.
use mathlib.Core.Path.{refl, ap, ap₂, ◌∙◌}
use Prim.Native.Nat.{◌*◌}
use Rattle.numbers.specs.Numbers.{encode, written}
use Rattle.whole.specs.Read.{leaves_in, sent_in}
use Rattle.whole.specs.Whole.{parted}
use Rattle.whole.proofs.Parted.{parted-more}
use Rattle.whole.proofs.put_totes.Goals as goal

pub loop-i-init : goal.loop-i-init
unfolding written encode parted
loop-i-init c = refl

pub loop-i-preserved : goal.loop-i-preserved
loop-i-preserved c =
    let s = c.args in
    let row = ap (λ m. c.loop-i.i * m) c.items-m.ensures in
    let sent = c.leaves.ensures ∙ ap₂ (leaves_in s.floor.now.belts.now s.tables.now.flow.now) row c.read-source.ensures in
    c.put_pair.ensures ∙
    parted-more c.read-capacity.result c.read-load.result (sent_in s.floor.now.belts.now s.floor.now.pairs.now s.tables.now.flow.now)
    s.totes.now c.loop-i.i c.leaves.result c.loop-i.invariant sent
