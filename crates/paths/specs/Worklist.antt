-- The list of a search: nodes that have come nearer, so that the arcs into them are to be relaxed.
use Rattle.std.specs.Prelude.{◌≡◌, Bool, true, false, List, ℕ, suc, ◌+◌, ◌-◌, ◌≤◌, ◌<◌, length, get_or}
use Rattle.arith.specs.Sum.{sum}

-- A node is on the list where its flag is 1, else that is 0; size of the nodes 1 to n are.
pub record Worklist (n : ℕ) (listed : List ℕ) (size : ℕ) : Type 0 where
  pub room : n < length listed
  pub flags : (v : ℕ) → v ≤ n → get_or listed v 0 ≤ 1
  pub count : size ≡ sum n (λ i. get_or listed (suc i) 0)

-- Node v is on the list of r nodes, and what was on the list of size nodes, with the flags old, still is.
pub record Enlisted (n : ℕ) (old : List ℕ) (size v : ℕ) (listed : List ℕ) (r : ℕ) : Type 0 where
  pub worklist : Worklist n listed r
  pub has : get_or listed v 0 ≡ 1
  pub still : (u : ℕ) → get_or listed u 0 ≡ 0 → get_or old u 0 ≡ 0
  pub grown : r ≤ size + 1

-- Where come is true it is so, else all is as it was.
pub record Met (come : Bool) (n : ℕ) (old : List ℕ) (size v : ℕ) (listed : List ℕ) (r : ℕ) : Type 0 where
  pub came : come ≡ true → Enlisted n old size v listed r
  pub stayed : come ≡ false → (listed ≡ old) × (r ≡ size)

-- Node v has left the list of size nodes, with the flags old, and no other node has.
pub record TakenOut (n : ℕ) (old : List ℕ) (size v : ℕ) (listed : List ℕ) : Type 0 where
  pub worklist : Worklist n listed (size - 1)
  pub node : (1 ≤ v) × (v ≤ n)
  pub others : (u : ℕ) → (u ≡ v → ⊥) → get_or listed u 0 ≡ get_or old u 0
