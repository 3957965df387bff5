-- `site::parts::begins` meets its contract. The loop's invariant: the part of floor f begins at `from`. The measure is what is left of i.
-- Assumes nothing.
use mathlib.Core.Path.{refl}
use Prim.Native.Nat.{◌+◌, ◌*◌, ◌≤◌, ◌<◌}
use native.Mathlib.Omega.{arith}
use Rattle.bounds.specs.Sites.{floor_numbers}
use Rattle.numbers.specs.Numbers.{count}
use Rattle.numbers.proofs.Columns.{member_below}
use Rattle.site.specs.Parts.{begins}
use Rattle.site.proofs.Begins.{begins-most, begins-more}
use Rattle.site.proofs.parts.begins.Goals as goal
use Rattle.site.proofs.parts.begins.Goals.{In-loop-f, Start}

pub loop-f-init : goal.loop-f-init
unfolding begins
loop-f-init c = refl

-- floor f's size is in the list
module _ (c : In-loop-f) where
  abbrev first : Start
  first = (goal.at.In-loop-f c).Start

  place : floor_numbers * c.loop-f.f + first.args.j < count first.args.floors.now
  place = member_below first.args.floors.now floor_numbers first.args.j c.loop-f.f first.requires.0 (omega (arith, c.loop-f-test.true, first.requires.1))

  within : c.loop-f.from ≤ first.args.room
  within = omega (arith, c.loop-f.invariant, begins-most first.args.floors.now first.args.j first.args.room c.loop-f.f)

pub loop-f-preserved : goal.loop-f-preserved
loop-f-preserved c =
    begins-more _ _ _ _ c.loop-f.invariant c.read.ensures c.fit-from.ensures

pub overflow_mul-f : goal.overflow_mul-f
overflow_mul-f c = omega (arith, place c)

pub overflow_add-f : goal.overflow_add-f
overflow_add-f c = omega (arith, place c)

pub read-requires : goal.read-requires
read-requires c = place c

pub overflow_sub-room : goal.overflow_sub-room
overflow_sub-room c = within (goal.at.overflow_sub-room c).In-loop-f

pub overflow_add-from : goal.overflow_add-from
overflow_add-from c = omega (arith, within (goal.at.overflow_add-from c).In-loop-f, c.fit-from.ensures)
