-- Laws of signed amounts: what g more or less makes of the two parts and of the size, and two's complement read back.
-- Assumes nothing.
use mathlib.Core.Path.{◌≡◌, refl, ap}
use mathlib.Core.Bool.{Bool, true, false, cond}
use Prim.Native.Nat.{ℕ, zero, suc, ◌+◌, ◌-◌, ◌^◌, ◌≤◌, ◌<◌}
use native.Mathlib.Omega.{arith}
use borrow.Author.Tests.{ltb-true, ltb-false, lt-ltb, le-ltb}
use lib.Dec.{ltb}
use lib.IntN.{ℤ, pos, negsuc, sub_ℕ, ◌+ℤ◌, ◌-ℤ◌}
use mir.Syntax.{w64}
use Rattle.std.specs.Int.{cast_signed, cast_unsigned, int_max, int_min}
use Rattle.std.specs.Int.RustNames.{unsigned_abs}
use Rattle.std.proofs.lemmas.Int.{ints, clamps}
use Rattle.signed.specs.Signed.{ahead, back, size, moved, twos}
use Rattle.signed.specs.FromTwos.{from_twos}

-- The two parts of an amount, for omega, which reads no ℤ.
record Parts (x : ℤ) (a b : ℕ) : Type 0 where
  forward : ahead x ≡ a
  backward : back x ≡ b

parts-sub : (a b : ℕ) → Parts (sub_ℕ a b) (a - b) (b - a)
unfolding ahead back
parts-sub a b = by (ltb a b) refl
  where
    by : (t : Bool) → ltb a b ≡ t → Parts (cond t (negsuc (b - suc a)) (pos (a - b))) (a - b) (b - a)
    by true e = record { forward = omega (arith, ltb-true); backward = omega (arith, ltb-true) }
    by false e = record { forward = refl; backward = omega (arith, ltb-false) }

-- g more goes forward but for what it takes off what went back.
parts_more : (x : ℤ) (g : ℕ) → Parts (x +ℤ pos g) (ahead x + (g - back x)) (back x - g)
unfolding ahead back
parts_more (pos n) g = record { forward = omega arith; backward = omega arith }
parts_more (negsuc n) g = let p = parts-sub g (suc n) in record { forward = omega arith; backward = omega arith }

parts-less : (x : ℤ) (g : ℕ) → Parts (x -ℤ pos g) (ahead x - g) (back x + (g - ahead x))
unfolding ahead back
parts-less (pos n) zero = record { forward = omega arith; backward = omega arith }
parts-less (pos n) (suc g) = let p = parts-sub n (suc g) in record { forward = omega arith; backward = omega arith }
parts-less (negsuc n) zero = let p = parts-sub 0 (suc n) in record { forward = omega arith; backward = omega arith }
parts-less (negsuc n) (suc g) = record { forward = omega arith; backward = omega arith }

pub more_parts : (x : ℤ) (g : ℕ) → ahead (x +ℤ pos g) + back x ≡ ahead x + g + back (x +ℤ pos g)
more_parts x g = let p = parts_more x g in omega arith

pub less-parts : (x : ℤ) (g : ℕ) → ahead (x -ℤ pos g) + g + back x ≡ ahead x + back (x -ℤ pos g)
less-parts x g = let p = parts-less x g in omega arith

pub more-size : (x : ℤ) (g : ℕ) → size (x +ℤ pos g) ≤ size x + g
more-size x g = let p = parts_more x g in omega arith

pub less-size : (x : ℤ) (g : ℕ) → size (x -ℤ pos g) ≤ size x + g
less-size x g = let p = parts-less x g in omega arith

pub more-back : (x : ℤ) (g : ℕ) → back (x +ℤ pos g) ≤ back x
more-back x g = let p = parts_more x g in omega arith

pub twos-below : (x : ℤ) → size x < 2 ^ 63 → twos x < 2 ^ 64
unfolding ahead back twos
twos-below (pos n) h = omega arith
twos-below (negsuc n) h = omega arith

-- A host reads the amount back.
pub twos-read : (x : ℤ) → size x < 2 ^ 63 → from_twos (twos x) ≡ x
unfolding ahead back twos from_twos
twos-read (pos n) h = rw (lt-ltb n (2 ^ 63) (omega arith))
twos-read (negsuc n) h = rw (le-ltb (2 ^ 64 - suc n) (2 ^ 63) (omega arith)) (ap negsuc (omega arith))

-- Moved by a draw, an amount grows in size by no more than the draw.
pub moved-size : (b : Bool) (g : ℕ) (x : ℤ) → size (moved b g x) ≤ size x + g
moved-size true g x = more-size x g
moved-size false g x = less-size x g

-- What std gives of an amount: its size, its two's complement, the amount of a number of 64 bits,
-- and what of it is above or below 0.
pub size-std : (x : ℤ) → unsigned_abs x ≡ size x
unfolding ahead back
size-std (pos n) = omega arith
size-std (negsuc n) = omega arith

pub twos-std : (x : ℤ) → cast_unsigned w64 x ≡ twos x
unfolding twos
twos-std (pos n) = refl
twos-std (negsuc n) = refl

pub from_twos-std : (u : ℕ) → cast_signed w64 u ≡ from_twos u
unfolding from_twos
from_twos-std u = grind arith

pub ahead-std : (x : ℤ) → unsigned_abs (int_max x (pos 0)) ≡ ahead x
unfolding ahead
ahead-std (pos n) = omega (arith, ints, clamps)
ahead-std (negsuc n) = refl

pub back-std : (x : ℤ) → unsigned_abs (int_min x (pos 0)) ≡ back x
unfolding back
back-std (pos n) = omega (arith, ints, clamps)
back-std (negsuc n) = refl
