-- Laws of where the parts of a slice begin: within it, one after the other. Assumes nothing.
use mathlib.Core.Path.{◌≡◌, ap}
use mathlib.Core.List.{List}
use Prim.Native.Nat.{ℕ, zero, suc, min, ◌+◌, ◌-◌, ◌≤◌}
use native.Mathlib.Numerals.{add-one}
use native.Mathlib.Omega.{arith}
use lib.ListN.{length}
use Rattle.numbers.specs.Numbers.{count}
use Rattle.site.specs.Parts.{told, begins}
use Rattle.site.specs.Turns.{span_of}

pub begins-most : (floors : List ℕ) (j room i : ℕ) → begins floors j room i ≤ room
unfolding begins
begins-most floors j room zero = omega arith
begins-most floors j room (suc i) = omega (arith, begins-most floors j room i)

-- The part ends within the slice.
pub span-most : (floors : List ℕ) (j i : ℕ) (s : List ℕ) → let p = span_of floors j (count s) i in p.from + p.size ≤ length s
span-most floors j i s = omega (arith, begins-most floors j (count s) i)

-- The next one begins where it ends.
pub span-next : (floors : List ℕ) (j room i : ℕ) → (span_of floors j room i).from + (span_of floors j room i).size ≡ (span_of floors j room (suc i)).from
unfolding begins
span-next floors j room i = omega arith

-- One floor more, in the numbers that were read.
pub begins-more :
    (floors : List ℕ) (j room f : ℕ) {from x r : ℕ} → from ≡ begins floors j room f → x ≡ told floors f j → r ≡ min x (room - from) → from + r ≡ begins floors j room (f + 1)
unfolding begins
begins-more floors j room f {from} e t h = rw (add-one, ← e, ← t) (ap (λ r. from + r) h)
