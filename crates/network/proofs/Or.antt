-- "Or" of tests: how code that stops at the first true test computes it, and what a false "or" tells.
-- Assumes nothing.
use mathlib.Core.Path.{◌≡◌, refl}
use mathlib.Core.Bool.{Bool, true, false, ◌||◌}

-- The value r of a test that stands for a: where it is true, it is the whole "or"; where it is false, the rest is.
pub or-stop : {v r a : Bool} (b : Bool) → r ≡ a → r ≡ true → v ≡ r → v ≡ a || b
or-stop b e t w = rw (w, ← e, t)

pub or-on : {v r a b : Bool} → r ≡ a → r ≡ false → v ≡ b → v ≡ a || b
or-on e f w = rw (w, ← e, f)

-- A false "or" has both tests false.
pub or-false-left : (a b : Bool) → a || b ≡ false → a ≡ false
or-false-left true b h = h
or-false-left false b h = refl

pub or-false-right : (a b : Bool) → a || b ≡ false → b ≡ false
or-false-right true b h = cc
or-false-right false b h = h
