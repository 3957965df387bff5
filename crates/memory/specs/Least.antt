-- The place of the least number.
use Rattle.std.specs.Prelude.{List, ℕ, ◌≤◌, ◌<◌, get_or}

-- Of the first k numbers none is less than the one at place r, and those before it are greater.
pub record Least (xs : List ℕ) (k r : ℕ) : Type 0 where
  pub among : r < k
  pub least : (j : ℕ) → j < k → get_or xs r 0 ≤ get_or xs j 0
  pub lowest : (j : ℕ) → j < r → get_or xs r 0 < get_or xs j 0
