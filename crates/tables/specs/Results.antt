-- What a step that looks along the path only says of the whole table of loads.
use Rattle.std.specs.Prelude.{◌≡◌, Bool, List, ℕ, ◌+◌}
use Rattle.method.specs.Iteration.{update}
use Rattle.tables.specs.Tables.{at_threshold}

-- The loads of what the path uses are raised by the draw g; whether some load is at the threshold.
pub record Loaded (old capacities : List ℕ) (threshold : ℕ) (path : List ℕ) (g : ℕ) (new : List ℕ) (r : Bool) : Type 0 where
  pub loads : new ≡ update (λ e x. x + g) path old
  pub ended : r ≡ at_threshold threshold capacities new
