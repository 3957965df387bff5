-- How often a list has a number. No contract of a call rests on it.
use Rattle.std.specs.Prelude.{cond, List, [], ◌∷◌, ℕ, ◌+◌, eqb}

-- how often e stands in a list
unfoldable pub times : ℕ → List ℕ → ℕ
times e [] = 0
times e (x ∷ p) = cond (eqb x e) 1 0 + times e p
