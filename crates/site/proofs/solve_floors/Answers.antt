-- `site::solve_floors` meets its contract. Assumes nothing.
use native.Mathlib.Omega.{arith}
use Rattle.site.proofs.Floors.{none_yet, one_more}
use Rattle.site.proofs.solve_floors.Goals as goal

pub loop-i-init : goal.loop-i-init
loop-i-init c = none_yet _ _

pub solve_floor-requires : goal.solve_floor-requires
solve_floor-requires c =
    let p = c.requires in
    (omega (arith, c.loop-i-test.true, c.items-k.ensures), record { few = p.few; room = omega (arith, p.room, c.loop-i.auto.answers) })

pub loop-i-preserved : goal.loop-i-preserved
loop-i-preserved c = one_more c.loop-i.invariant c.solve_floor.ensures
