-- The search along the order for a node that is on the list.
use Rattle.std.specs.Prelude.{◌≡◌, List, ℕ, Option, MatchOption, ◌≤◌, ◌<◌, length, get_or}
use Rattle.paths.specs.Worklist.{Worklist}
use Rattle.paths.specs.Order.{node_at, Arranged}

-- Place p of the order has a node that is on the list.
pub record Waits (n : ℕ) (page listed : List ℕ) (p : ℕ) : Type 0 where
  pub place : p < n
  pub flag : 1 ≤ get_or listed (node_at page p) 0

-- Each node of the order has a flag.
pub record Scanning (n : ℕ) (page listed : List ℕ) : Type 0 where
  pub arranged : Arranged n page
  pub room : n < length listed

-- No node is on the list at the places before p, beginning with the given one.
abbrev pub NoneBefore : List ℕ → List ℕ → ℕ → ℕ → Type 0
NoneBefore page listed from p = (q : ℕ) → q < p → from ≤ q → get_or listed (node_at page q) 0 ≡ 0

-- The first place, beginning with the given one, whose node is on the list, or none of the n.
abbrev pub Scanned : ℕ → List ℕ → List ℕ → ℕ → Option ℕ → Type 0
Scanned n page listed from r = MatchOption r (NoneBefore page listed from n) (λ p. Waits n page listed p × NoneBefore page listed from p)

-- The node at this place is to leave the list.
pub record Taking (n : ℕ) (page listed : List ℕ) (size at : ℕ) : Type 0 where
  pub arranged : Arranged n page
  pub worklist : Worklist n listed size
  pub waits : Waits n page listed at
