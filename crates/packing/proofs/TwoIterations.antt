-- A move of the table of two resources is an iteration.
-- Assumes nothing.
use mathlib.Core.Path.{◌≡◌, refl}
use mathlib.Core.Bool.{Bool, true, false}
use Prim.Native.Nat.{ℕ, ◌*◌, ◌^◌}
use native.Mathlib.Omega.{arith}
use borrow.Author.Tests.{leb-true, leb-false, ltb-true, ltb-false}
use lib.Dec.{leb, ltb, lit≤, lit<}
use Rattle.arith.specs.Sum.{sum}
use Rattle.packing.proofs.Run.{volume, Column, Lengths, Least, Iteration}
use Rattle.packing.proofs.TwoResources.{Table, pick, ones, lengths, state, two, choose, either, drawn, moved, move}

module _ (d₀ d₁ a : ℕ) (t : Table) where
  -- by the tests h₀ and h₁ of the two grown lengths against the mark
  next-lengths : (h₀ h₁ : Bool) →
      leb (2 ^ 40) (drawn d₀ d₁ t 0) ≡ h₀ → leb (2 ^ 40) (drawn d₀ d₁ t 1) ≡ h₁ →
      Lengths 2 (drawn d₀ d₁ t) (lengths (moved (either h₀ h₁) false d₀ d₁ a t))
  next-lengths true h₁ e f = Lengths.halved 0 (lit< tt) (leb-true _ _ e) (two _ refl refl)
  next-lengths false true e f = Lengths.halved 1 (lit< tt) (leb-true _ _ f) (two _ refl refl)
  next-lengths false false e f = Lengths.kept (two _ (leb-false _ _ e) (leb-false _ _ f)) (two _ refl refl)

-- by the test of the fractions
next-least : (D a B A : ℕ) (less : Bool) → ltb (D * A) (B * a) ≡ less → Least D a B A (choose less D B) (choose less a A)
next-least D a B A true e = Least.smaller (ltb-true _ _ e) refl refl
next-least D a B A false e = Least.held (ltb-false _ _ e) refl refl

-- Any draw of a column by 1 is an iteration.
pub iteration : (d₀ d₁ a : ℕ) (t : Table) → Column 2 ones (lengths t) (pick d₀ d₁) 1 a → Iteration 2 4 ones (state t) (state (move d₀ d₁ a t))
iteration d₀ d₁ a t k = record {
  draw = pick d₀ d₁;
  amount = 1;
  size = a;
  column = k;
  lengths = next-lengths d₀ d₁ a t _ _ refl refl;
  load = two _ refl refl;
  total = refl;
  count = refl;
  least = next-least (volume 2 ones (lengths t)) a t.bound t.alpha _ refl;
}

-- The columns of one resource each.
pub first : (t : Table) → Column 2 ones (lengths t) (pick 1 0) 1 t.l₀
unfolding sum
first t = record { within = two _ (lit≤ tt) (lit≤ tt); size = omega arith; narrow = 0; inside = lit< tt; used = refl; full = refl }

pub second : (t : Table) → Column 2 ones (lengths t) (pick 0 1) 1 t.l₁
unfolding sum
second t = record { within = two _ (lit≤ tt) (lit≤ tt); size = omega arith; narrow = 1; inside = lit< tt; used = refl; full = refl }
