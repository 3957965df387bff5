-- A floor's own parts of the slices. Request C-14: "how many numbers .. are its own (parts in floor order; a part stops at its slice's end)".
use Rattle.std.specs.Prelude.{List, ℕ, zero, suc, min, ◌+◌, ◌*◌, ◌-◌}
use Rattle.bounds.specs.Sites.{floor_numbers}
use Rattle.numbers.specs.Numbers.{count, number_at}
use Rattle.packed.specs.Part.{part, put}

-- Member j of floor i's item, both counted from 0: n, q, and how many numbers of belts, pairs, limits, flow and lengths are its own.
abbrev pub told : List ℕ → ℕ → ℕ → ℕ
told floors i j = number_at floors (floor_numbers * i + j)

-- Where floor i's part begins, of a slice of so many numbers: where the parts before it ended. Member j tells their sizes, and a part has no more
-- than are left.
unfoldable pub begins : List ℕ → ℕ → ℕ → ℕ → ℕ
begins floors j room zero = 0
begins floors j room (suc i) = begins floors j room i + min (told floors i j) (room - begins floors j room i)

-- How many numbers that part has.
abbrev pub numbers_in : List ℕ → ℕ → ℕ → ℕ → ℕ
numbers_in floors j room i = min (told floors i j) (room - begins floors j room i)

-- The part, and the slice with ys in its place; bytes behind the last whole number are in no part.
abbrev pub own : List ℕ → ℕ → ℕ → List ℕ → List ℕ
own floors j i s = part (8 * begins floors j (count s) i) (8 * numbers_in floors j (count s) i) s

abbrev pub put_own : List ℕ → ℕ → ℕ → List ℕ → List ℕ → List ℕ
put_own floors j i s ys = put (8 * begins floors j (count s) i) (8 * numbers_in floors j (count s) i) s ys
