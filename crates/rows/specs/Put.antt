-- Bytes written into a lent table; cited only by the contracts of the program's parts.
use Rattle.std.specs.Prelude.{◌≡◌, List, ℕ, ◌+◌, ◌≤◌, length}
use Rattle.numbers.specs.Parts.{splice}
use Rattle.rows.specs.declared.put.Rows.{Rows}

-- The bytes xs stand from place `at` on, there was room for them, every other place is as before, and `end` is the place after them.
pub record Put (xs : List ℕ) (out : List ℕ) (at : ℕ) (out' : List ℕ) (end : ℕ) : Type 0 where
  pub places : out' ≡ splice out at xs
  pub next : end ≡ at + length xs
  pub room : at + length xs ≤ length out

-- The bytes xs are put behind the rows r, which gives the rows r'.
abbrev pub Puts : List ℕ → Rows → Rows → Type 0
Puts xs r r' = Put xs r.out.now r.at r'.out.now r'.at
