-- How many limits are given: what the calls count before they look at a network.
use Rattle.std.specs.Prelude.{cond, List, ℕ, zero, suc, ◌+◌, eqb, get_or}

-- how many of the first n numbers are not 0
unfoldable pub given : List ℕ → ℕ → ℕ
given xs zero = 0
given xs (suc n) = given xs n + cond (eqb (get_or xs n 0) 0) 0 1
