-- A part of a slice. Assumes nothing.
use Rattle.std.specs.Prelude.{List, ◌++◌, ℕ, ◌+◌, ◌-◌, take, drop}

-- The n numbers from place a on: how the checker shows a part a .. a + n of a slice.
abbrev pub part : ℕ → ℕ → List ℕ → List ℕ
part a n xs = take (a + n - a) (drop a xs)

-- The slice with ys in the place of those n numbers: how it shows a part that was lent and has come back.
abbrev pub put : ℕ → ℕ → List ℕ → List ℕ → List ℕ
put a n xs ys = take a xs ++ (ys ++ drop (a + n - a) (drop a xs))
