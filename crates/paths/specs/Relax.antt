-- Relaxation: an arc that leads to a nearer way is taken.
use Rattle.std.specs.Prelude.{Bool, cond, List, ◌≡◌, ℕ, ◌+◌, ◌*◌, ◌^◌, ◌<◌, ltb, length, get_or, set}
use Rattle.bounds.specs.Bounds.{most_nodes}
use Rattle.paths.specs.Distances.{via}

-- The way over arc e from u to w, where x is the length of w, is nearer than the distance of u.
unfoldable pub shortens : List ℕ → List ℕ → ℕ → ℕ → ℕ → ℕ → Bool
shortens l d x u e w = ltb (via l d x e w) (get_or d u 0)

-- The distances after the arc: u has that of the way over it, where that is nearer.
unfoldable pub relaxed : List ℕ → List ℕ → ℕ → ℕ → ℕ → ℕ → List ℕ
relaxed l d x u e w = cond (shortens l d x u e w) (set d u (via l d x e w)) d

-- The arc has a length, its end an entry, and the way over it is a number of 64 bits.
pub record Crossing (l d : List ℕ) (x e w : ℕ) : Type 0 where
  pub arc : e < length l
  pub end : w < length d
  pub fits : via l d x e w < 2 ^ 64

-- And its start has an entry.
pub record Relaxing (l d : List ℕ) (x u e w : ℕ) : Type 0 where
  pub crossing : Crossing l d x e w
  pub start : u < length d

-- How far the way over any arc to node w is, without the arc's own length, where x is the length of w.
abbrev pub onward_of : List ℕ → ℕ → ℕ → ℕ
onward_of d x w = most_nodes * x + 1 + get_or d w 0

-- A way of y is taken at node u: r tells whether it is nearer, and new has the distances then.
pub record Taken (y u : ℕ) (old : List ℕ) (r : Bool) (new : List ℕ) : Type 0 where
  pub told : r ≡ ltb y (get_or old u 0)
  pub entries : new ≡ cond (ltb y (get_or old u 0)) (set old u y) old

-- The arc is relaxed: r tells whether it led to a nearer way, and new has the distances after it.
pub record Relaxed (l : List ℕ) (x u e w : ℕ) (old : List ℕ) (r : Bool) (new : List ℕ) : Type 0 where
  pub told : r ≡ shortens l old x u e w
  pub entries : new ≡ relaxed l old x u e w
