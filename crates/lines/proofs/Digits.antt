-- The number of a word, read digit by digit.
-- Assumes nothing.
use mathlib.Core.Path.{◌≡◌, ◌∙◌}
use mathlib.Core.Bool.{true, false}
use mathlib.Core.List.{List}
use Rattle.std.specs.Prelude.{Some, None}
use Rattle.std.proofs.Common.{tests}
use Prim.Native.Nat.{ℕ, ◌+◌, ◌*◌, ◌-◌, ◌^◌, ◌≤◌, ◌<◌}
use native.Mathlib.Numerals.{add-one}
use native.Mathlib.Omega.{arith}
use lib.ListN.{length, get_or, drop, drop_of_length-le}
use lib.Seq.{drop-cons}
use borrow.Author.Tests.{le-leb, lt-leb}
use Rattle.lines.specs.Number.{digit, every, from_digits, number_of}

-- The first i digits of the word w have the value x.
pub record DigitsRead (w : List ℕ) (i x : ℕ) : Type 0 where
  pub least : 1 ≤ length w
  pub most : length w ≤ 9
  pub within : i ≤ length w
  pub digits : every digit w ≡ every digit (drop i w)
  pub worth : from_digits 0 w ≡ from_digits x (drop i w)
  pub small : x < 10 ^ i

pub digit-most : (b : ℕ) → digit b ≡ true → b ≤ 57
unfolding digit
digit-most b e = grind (arith, tests)

-- The bytes below the digits, and above them, are none.
pub digit-below : (b : ℕ) → b < 48 → digit b ≡ false
unfolding digit
digit-below b h = rw (lt-leb 48 b h)

pub digit-above : (b : ℕ) → 57 < b → digit b ≡ false
unfolding digit
digit-above b h = let l : 48 ≤ b = omega arith in rw (le-leb 48 b l, lt-leb b 57 h)

pub digit-in : (b : ℕ) → 48 ≤ b → b ≤ 57 → digit b ≡ true
unfolding digit
digit-in b h l = rw (le-leb 48 b h, le-leb b 57 l)

module _ (w : List ℕ) where
  pub digit-read : (i x : ℕ) → DigitsRead w i x → i < length w → digit (get_or w i 0) ≡ true →
      DigitsRead w (i + 1) (x * 10 + (get_or w i 0 - 48))
  unfolding every from_digits
  digit-read i x r h e =
      rw add-one
      record {
        least = r.least;
        most = r.most;
        within = omega arith;
        digits = r.digits ∙ rw (drop-cons w i 0 h, e);
        worth = r.worth ∙ rw (drop-cons w i 0 h);
        small = omega (arith, r.small, digit-most (get_or w i 0) e);
      }

  pub number_read : (i x : ℕ) → DigitsRead w i x → length w ≤ i → Some x ≡ number_of w
  unfolding number_of every from_digits
  number_read i x r h =
      let d : every digit w ≡ true = r.digits ∙ rw (drop_of_length-le w h) in
      let v : from_digits 0 w ≡ x = r.worth ∙ rw (drop_of_length-le w h) in
      rw (le-leb 1 (length w) r.least, le-leb (length w) 9 r.most, d, v)

  pub no_number : (i x : ℕ) → DigitsRead w i x → i < length w → digit (get_or w i 0) ≡ false → None ≡ number_of w
  unfolding number_of every
  no_number i x r h e =
      let d : every digit w ≡ false = r.digits ∙ rw (drop-cons w i 0 h, e) in
      rw (le-leb 1 (length w) r.least, le-leb (length w) 9 r.most, d)

  pub no_size : (length w < 1) → None ≡ number_of w
  unfolding number_of
  no_size h = rw (lt-leb 1 (length w) h)

  pub too_long : 9 < length w → None ≡ number_of w
  unfolding number_of
  too_long h = let l : 1 ≤ length w = omega arith in rw (le-leb 1 (length w) l, lt-leb (length w) 9 h)
