-- The first member of a list that passes a test, by its place. No contract of a call rests on it.
use Rattle.std.specs.Prelude.{Bool, cond, List, [], ◌∷◌, ℕ, suc, ◌+◌, drop}

-- how many members come before the first that passes the test
unfoldable pub until : (ℕ → Bool) → List ℕ → ℕ
until f [] = 0
until f (x ∷ xs) = cond (f x) 0 (suc (until f xs))

-- the place of the first member from place i on that passes the test, or the end
abbrev pub scan : (ℕ → Bool) → List ℕ → ℕ → ℕ
scan f s i = i + until f (drop i s)
