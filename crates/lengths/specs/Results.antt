-- What the steps of the lengths say of the whole table, also where they look along the path only.
use Rattle.std.specs.Prelude.{◌≡◌, cond, List, map, ℕ}
use Rattle.length.specs.Length.{start, halving}
use Rattle.tables.specs.Tables.{weight_of, longer, at_mark}
use Rattle.lengths.specs.declared.Grown.{Grown}

-- The lengths that a run starts with.
abbrev pub first_lengths : List ℕ → List ℕ
first_lengths capacities = map start capacities

-- The lengths are those wanted, and d is their D.
pub record Weighed (wanted capacities new : List ℕ) (d : ℕ) : Type 0 where
  pub lengths : new ≡ wanted
  pub weight : d ≡ weight_of capacities new

-- The lengths of what the path uses are grown by the draw g; their D, and whether some length is at the mark.
pub record Grew (old capacities : List ℕ) (q g : ℕ) (path new : List ℕ) (r : Grown) : Type 0 where
  pub lengths : new ≡ longer capacities q g path old
  pub weight : r.weight ≡ weight_of capacities new
  pub marked : r.marked ≡ at_mark new

-- Growth and halving: the lengths are grown, and halved where one of them then is at the mark; their D, and whether they were halved.
pub record Lengthened (old capacities : List ℕ) (q g : ℕ) (path new : List ℕ) (r : Grown) : Type 0 where
  pub marked : r.marked ≡ at_mark (longer capacities q g path old)
  pub lengths : new ≡ cond r.marked (map halving (longer capacities q g path old)) (longer capacities q g path old)
  pub weight : r.weight ≡ weight_of capacities new
