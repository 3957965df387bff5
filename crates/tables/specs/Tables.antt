-- What is asked of all numbers of a table, and what is read off all of them.
-- Assumes nothing.
use Rattle.std.specs.Prelude.{Bool, List, ℕ, ◌*◌, ◌≤◌, ◌<◌, leb, length, get_or}
use Rattle.arith.specs.Lists.{exists}
use Rattle.arith.specs.Sum.{sum}
use Rattle.length.specs.Length.{mark, growth}
use Rattle.method.specs.Iteration.{update}

-- Every number of the table is less than b. Of a path, or of what it uses: all are among b.
abbrev pub Under : ℕ → List ℕ → Type 0
Under b xs = (e : ℕ) → e < length xs → get_or xs e 0 < b

-- Every number of the table is at most b.
abbrev pub NoneAbove : ℕ → List ℕ → Type 0
NoneAbove b xs = (e : ℕ) → e < length xs → get_or xs e 0 ≤ b

-- D: the sum over all resources of capacity times length.
abbrev pub weight_of : List ℕ → List ℕ → ℕ
weight_of capacities lengths = sum (length capacities) (λ e. get_or capacities e 0 * get_or lengths e 0)

-- The lengths grown by the draw g along a path at precision q.
abbrev pub longer : List ℕ → ℕ → ℕ → List ℕ → List ℕ → List ℕ
longer capacities q g path lengths = update (λ e x. growth q g (get_or capacities e 0) x) path lengths

-- Some length is at the mark.
abbrev pub at_mark : List ℕ → Bool
at_mark lengths = exists (length lengths) (λ e. leb mark (get_or lengths e 0))

-- Some load is at least the threshold times the resource's capacity.
abbrev pub at_threshold : ℕ → List ℕ → List ℕ → Bool
at_threshold threshold capacities loads = exists (length loads) (λ e. leb (threshold * get_or capacities e 0) (get_or loads e 0))
