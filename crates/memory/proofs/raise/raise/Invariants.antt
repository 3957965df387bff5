-- `memory::raise::raise` meets its contract: the bounds of the commodities passed are raised, and b has the least of them. Assumes nothing.
use mathlib.Core.Path.{◌≡◌}
use mathlib.Core.Logic.{◌⊎◌}
use mathlib.Core.List.{List}
use Prim.Native.Nat.{ℕ}
use Rattle.packed.specs.declared.Shape.{Shape}
use Rattle.memory.specs.Least.{Least}
use Rattle.memory.specs.Memory.{bounds_in}
use Rattle.memory.specs.Raised.{RaisedIn}
use Rattle.memory.proofs.raise.raise.Given as goal

-- b has the least of the first i bounds, or there is none yet
abbrev pub Leading : List ℕ → ℕ → ℕ → Type 0
Leading bounds i b = ((i ≡ 0) × (b ≡ 0)) ⊎ Least bounds i b

-- the first i commodities are raised
pub record Passed (s : Shape) (net ix l : List ℕ) (t : ℕ) (old new : List ℕ) (i b : ℕ) : Type 0 where
  pub raised : RaisedIn s net ix l t old new i
  pub leading : Leading (bounds_in s new) i b

abbrev pub invariant-loop-i : goal.invariant-loop-i
invariant-loop-i l = Passed l.net.shape l.net.numbers.now l.ix l.lengths l.t l.initial.memory l.memory l.i l.b
