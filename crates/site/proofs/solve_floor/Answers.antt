-- `site::solve_floor` meets its contract, for every floor. Assumes nothing.
use mathlib.Core.Bool.{false}
use mathlib.Core.Path.{◌≡◌, ap, ◌∙◌}
use Prim.Native.Nat.{ℕ, ◌+◌, ◌*◌, ◌≤◌, ◌<◌}
use native.Mathlib.Omega.{arith}
use lib.Dec.{lit≤}
use lib.ListN.{length}
use Rattle.bounds.specs.Sites.{floor_numbers}
use Rattle.numbers.specs.Numbers.{count, number_at}
use Rattle.numbers.proofs.Columns.{member_below}
use Rattle.packed.specs.Part.{put}
use Rattle.packed.proofs.Columns.{part_length, put-length}
use Rattle.call.specs.Deliver.{slices}
use Rattle.call.specs.Host.{Slices}
use Rattle.call.proofs.Hosts.{result_fits}
use Rattle.site.specs.Site.{Site}
use Rattle.site.specs.Turns.{site}
use Rattle.site.proofs.Fitting.{Fitting, fitting}
use Rattle.site.proofs.Floor.{floor-served}
use Rattle.site.proofs.solve_floor.Goals as goal
use Rattle.site.proofs.solve_floor.Goals.{After-of_floor-p, After-solve_alone-returned, Start}

-- what is read, and the slices at entry
abbrev what : Start → Site
what s = site s.args.office s.args.floors.now s.args.floor.now.belts.now s.args.floor.now.pairs.now s.args.floor.now.limits.now

abbrev lent : Start → Slices
lent s = slices s.args.flow.now s.args.lengths.now s.args.answers.now s.args.counts.now

module _ (c : After-of_floor-p) where
  abbrev first : Start
  first = (goal.at.After-of_floor-p c).Start

  -- the parts end within their slices
  fit : Fitting c.of_floor-p.result first.args.floor.now.belts.now first.args.floor.now.pairs.now first.args.floor.now.limits.now first.args.flow.now first.args.lengths.now
  fit = fitting first.args.floors.now first.args.i _ _ _ _ _ c.of_floor-p.ensures

  few : first.args.i < 16
  few = omega (arith, first.requires.0, first.requires.1.few)

  -- the floor's item and its eight numbers are there
  item : (j : ℕ) → j < floor_numbers → floor_numbers * first.args.i + j < count first.args.floors.now
  item j h = member_below first.args.floors.now floor_numbers j first.args.i h first.requires.0

  eight-fit : 64 * first.args.i + 64 ≤ length first.args.answers.now
  eight-fit = omega (arith, first.requires.0, first.requires.1.room)

-- the seven have come back
seven : (c : After-solve_alone-returned) → length c.solve_alone-returned.new.answer ≡ 56
seven c =
    c.solve_alone-returned.auto.answer ∙ part_length (64 * c.args.i + 8) 56 c.args.answers.now (omega (arith, eight-fit (goal.at.After-solve_alone-returned c).After-of_floor-p))

answers-length :
    (c : After-solve_alone-returned) →
    length (put (64 * c.args.i + 8) 56 c.args.answers.now c.solve_alone-returned.new.answer) ≡ length c.args.answers.now
answers-length c =
    put-length (64 * c.args.i + 8) 56 c.args.answers.now c.solve_alone-returned.new.answer (omega (arith, eight-fit (goal.at.After-solve_alone-returned c).After-of_floor-p)) (seven c)

pub host_number-requires : goal.host_number-requires
host_number-requires c = rw c.solve_alone-returned.ensures.returned (result_fits false _ _ _ _)

pub write-requires : goal.write-requires
write-requires c = omega (arith, answers-length (goal.at.write-requires c).After-solve_alone-returned, eight-fit (goal.at.write-requires c).After-of_floor-p)

pub shape_of-answers : goal.shape_of-answers
shape_of-answers c = c.write.auto.s ∙ answers-length (goal.at.shape_of-answers c).After-solve_alone-returned

pub returns : goal.returns
returns c =
    let member : floor_numbers * c.args.i ≡ floor_numbers * c.args.i + 0 = omega arith in
    floor-served (what (goal.at.returns c).Start) c.args.i (lent (goal.at.returns c).Start) (eight-fit (goal.at.returns c).After-of_floor-p) (c.read-n.ensures ∙ ap (number_at c.args.floors.now) member) c.read-q.ensures c.of_floor-p.ensures c.solve_alone-returned.ensures (rw c.host_number.ensures at c.write.ensures)

pub overflow_mul-i : goal.overflow_mul-i
overflow_mul-i c = omega (arith, few (goal.at.overflow_mul-i c).After-of_floor-p)

pub read-n-requires : goal.read-n-requires
read-n-requires c = omega (arith, item (goal.at.read-n-requires c).After-of_floor-p 0 (lit≤ tt))

pub overflow_mul-i-2 : goal.overflow_mul-i-2
overflow_mul-i-2 c = omega (arith, few (goal.at.overflow_mul-i-2 c).After-of_floor-p)

pub overflow_add-i : goal.overflow_add-i
overflow_add-i c = omega (arith, few (goal.at.overflow_add-i c).After-of_floor-p)

pub read-q-requires : goal.read-q-requires
read-q-requires c = item (goal.at.read-q-requires c).After-of_floor-p 1 (lit≤ tt)

pub overflow_mul-answer : goal.overflow_mul-answer
overflow_mul-answer c = omega (arith, few (goal.at.overflow_mul-answer c).After-of_floor-p)

pub overflow_add-answer : goal.overflow_add-answer
overflow_add-answer c = omega (arith, few (goal.at.overflow_add-answer c).After-of_floor-p)

pub slice_bounds-own-end : goal.slice_bounds-own-end
slice_bounds-own-end c = omega (arith, (fit (goal.at.slice_bounds-own-end c).After-of_floor-p).of-belts)

pub slice_bounds-own-end-2 : goal.slice_bounds-own-end-2
slice_bounds-own-end-2 c = omega (arith, (fit (goal.at.slice_bounds-own-end-2 c).After-of_floor-p).of-pairs)

pub slice_bounds-own-end-3 : goal.slice_bounds-own-end-3
slice_bounds-own-end-3 c = omega (arith, (fit (goal.at.slice_bounds-own-end-3 c).After-of_floor-p).of-limits)

pub slice_bounds-solve_alone-end : goal.slice_bounds-solve_alone-end
slice_bounds-solve_alone-end c = omega (arith, (fit (goal.at.slice_bounds-solve_alone-end c).After-of_floor-p).of-flow)

pub slice_bounds-solve_alone-end-2 : goal.slice_bounds-solve_alone-end-2
slice_bounds-solve_alone-end-2 c = omega (arith, (fit (goal.at.slice_bounds-solve_alone-end-2 c).After-of_floor-p).of-lengths)

pub overflow_add-answer-2 : goal.overflow_add-answer-2
overflow_add-answer-2 c = omega (arith, few (goal.at.overflow_add-answer-2 c).After-of_floor-p)

pub slice_bounds-solve_alone-end-3 : goal.slice_bounds-solve_alone-end-3
slice_bounds-solve_alone-end-3 c = omega (arith, eight-fit (goal.at.slice_bounds-solve_alone-end-3 c).After-of_floor-p)

pub overflow_mul-i-3 : goal.overflow_mul-i-3
overflow_mul-i-3 c = omega (arith, few (goal.at.overflow_mul-i-3 c).After-of_floor-p)
