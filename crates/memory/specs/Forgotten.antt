-- What a memory has at the start of a run, and what a halving of the lengths leaves of it.
use Rattle.std.specs.Prelude.{◌≡◌, List, ◌++◌, ℕ, ◌+◌, ◌≤◌, take, drop, replicate}
use Rattle.paths.specs.Order.{LinedUp}
use Rattle.memory.specs.Memory.{pages_from, page_in}

-- At the start the order is 1, 2, .., n on the page of every node.
pub record Begun (n : ℕ) (memory : List ℕ) : Type 0 where
  pub orders : (t : ℕ) → t ≤ n → LinedUp n (page_in t memory)

-- A page with 0 for every node, and behind that as it was;
abbrev pub cleared : ℕ → List ℕ → List ℕ
cleared n page = replicate (n + 1) 0 ++ drop (n + 1) page

-- the page of every node is so, and what stands before the pages is as it was,
pub record PagesCleared (n : ℕ) (old new : List ℕ) : Type 0 where
  pub front : take pages_from new ≡ take pages_from old
  pub pages : (t : ℕ) → t ≤ n → page_in t new ≡ cleared n (page_in t old)

-- or is 0 as well.
pub record Forgotten (n : ℕ) (old new : List ℕ) : Type 0 where
  pub front : take pages_from new ≡ replicate pages_from 0
  pub pages : (t : ℕ) → t ≤ n → page_in t new ≡ cleared n (page_in t old)
