-- `site::parts::part_of` meets its contract. Assumes nothing.
use mathlib.Core.Path.{◌≡◌, ap, ap₂, ◌∙◌}
use Prim.Native.Nat.{ℕ, min, ◌+◌, ◌*◌, ◌-◌, ◌≤◌, ◌<◌}
use native.Mathlib.Omega.{arith}
use Rattle.bounds.specs.Sites.{floor_numbers}
use Rattle.numbers.specs.Numbers.{count}
use Rattle.numbers.proofs.Columns.{member_below}
use Rattle.site.specs.Parts.{begins, numbers_in}
use Rattle.site.specs.declared.parts.Span.{Span}
use Rattle.site.proofs.Begins.{begins-most}
use Rattle.site.proofs.parts.part_of.Goals as goal
use Rattle.site.proofs.parts.part_of.Goals.{After-begins-from, After-fit-size}

-- the part's size is in the list
place : (c : After-begins-from) → floor_numbers * c.args.i + c.args.j < count c.args.floors.now
place c = member_below c.args.floors.now floor_numbers c.args.j c.args.i c.requires.0 c.requires.1

-- where it begins, and how many numbers it has
from_is : (c : After-begins-from) → c.begins-from.result ≡ begins c.args.floors.now c.args.j (count c.args.s.now) c.args.i
from_is c = c.begins-from.ensures ∙ ap (λ n. begins c.args.floors.now c.args.j n c.args.i) c.count-room.ensures

within : (c : After-begins-from) → c.begins-from.result ≤ c.count-room.result
within c =
    omega (arith, from_is c, c.count-room.ensures, begins-most c.args.floors.now c.args.j (count c.args.s.now) c.args.i)

size_is :
    (c : After-fit-size) →
    c.fit-size.result ≡ numbers_in c.args.floors.now c.args.j (count c.args.s.now) c.args.i
size_is c =
    c.fit-size.ensures ∙ ap₂ min c.read.ensures (ap₂ ◌-◌ c.count-room.ensures (from_is (goal.at.After-fit-size c).After-begins-from))

small : (c : After-fit-size) → c.begins-from.result + c.fit-size.result ≤ c.count-room.result
small c = omega (arith, within (goal.at.After-fit-size c).After-begins-from, c.fit-size.ensures)

abbrev span : ℕ → ℕ → Span
span from size = record { from = 8 * from; size = 8 * size }

pub overflow_mul-i : goal.overflow_mul-i
overflow_mul-i c = omega (arith, place c)

pub overflow_add-i : goal.overflow_add-i
overflow_add-i c = omega (arith, place c)

pub read-requires : goal.read-requires
read-requires c = place c

pub overflow_sub-room : goal.overflow_sub-room
overflow_sub-room c = within (goal.at.overflow_sub-room c).After-begins-from

pub overflow_mul-result : goal.overflow_mul-result
overflow_mul-result c = omega (arith, small c, c.count-room.ensures)

pub overflow_mul-result-2 : goal.overflow_mul-result-2
overflow_mul-result-2 c = omega (arith, small c, c.count-room.ensures)

pub returns : goal.returns
returns c = ap₂ span (from_is (goal.at.returns c).After-begins-from) (size_is c)
