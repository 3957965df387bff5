-- The number L of document 01, "One choice of route", and the threshold that it gives.
-- Assumes nothing.
use Rattle.std.specs.Prelude.{ℕ, ◌+◌, ◌-◌, ◌*◌, ◌^◌, ◌≤◌, ◌<◌, get_or}
use Rattle.bounds.specs.Bounds.{most_arcs, least_precision}
use Rattle.length.specs.Levels.{levels}

-- L stands in a constant table for each m from 1 to 256 and q from 4 to 16
unfoldable pub level : ℕ → ℕ → ℕ
level m q = get_or levels ((q - least_precision) * most_arcs + (m - 1)) 0

-- The load mark T is q × L
unfoldable pub threshold : ℕ → ℕ → ℕ
threshold m q = q * level m q

-- What L is: the least whole number l, at least 1, with (1 + 1/q)^l ≥ m, here multiplied by q^l
pub record Level (m q l : ℕ) : Type 0 where
  pub least : 1 ≤ l
  pub enough : m * q ^ l ≤ (q + 1) ^ l
  pub below : (j : ℕ) → 1 ≤ j → j < l → (q + 1) ^ j < m * q ^ j
