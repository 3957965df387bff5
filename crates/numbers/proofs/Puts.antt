-- Laws of one number written: it is read back, all others are kept, and so are the length and the bytes of an incomplete last number.
-- Assumes nothing.
use mathlib.Core.Path.{◌≡◌, sym, ap, ◌∙◌}
use Prim.Native.Nat.{ℕ, ◌+◌, ◌*◌, ◌^◌, ◌≤◌, ◌<◌}
use mathlib.Core.List.{List, ◌++◌}
use native.Mathlib.Decide.{dec_lt}
use native.Mathlib.Omega.{arith}
use lib.ListN.{length, take, drop, length-append}
use lib.Seq.{length-take-le, drop_at, take_all}
use Rattle.numbers.specs.Digits.{to_bytes}
use Rattle.numbers.specs.Numbers.{count, number_at, put_at}
use Rattle.numbers.proofs.Digits.{length_digits}
use Rattle.numbers.proofs.Over.{over, length_over, drop-over, over-take}
use Rattle.numbers.proofs.Places.{number_at-front, number_at-past}
use Rattle.numbers.proofs.Splices.{splice-is-over}
use Rattle.numbers.proofs.Values.{value-digits-8}

module _ (s : List ℕ) (i x : ℕ) (h : i < count s) where
  -- The bytes up to the end of the number written.
  front : List ℕ
  front = take (8 * i) s ++ to_bytes 8 x

  length_front : length front ≡ 8 * i + 8
  unfolding front
  length_front = rw (length-append, length-take-le (8 * i) s (omega arith), length_digits)

  put_at-is-over : put_at s i x ≡ over front s
  unfolding front put_at to_bytes
  put_at-is-over = splice-is-over s (8 * i) (to_bytes 8 x) (omega arith)

  pub length-put_at : length (put_at s i x) ≡ length s
  length-put_at = rw (put_at-is-over, length_over front s (omega (arith, length_front)))

  -- The bytes past the number written are kept.
  pub drop-put_at : (n : ℕ) → 8 * i + 8 ≤ n → drop n (put_at s i x) ≡ drop n s
  drop-put_at n l = rw (put_at-is-over, drop-over front s n (omega (arith, length_front)))

  -- Those of an incomplete last number too.
  pub drop-count-put_at : drop (8 * count s) (put_at s i x) ≡ drop (8 * count s) s
  drop-count-put_at = drop-put_at (8 * count s) (omega arith)

  -- The number written is read.
  pub number_at-put_at : x < 2 ^ 64 → number_at (put_at s i x) i ≡ x
  unfolding front number_at
  number_at-put_at b =
      rw (
        put_at-is-over,
        number_at-front front (drop (length front) s) i (omega (arith, length_front)),
        drop_at (take (8 * i) s) (to_bytes 8 x) (8 * i) (length-take-le (8 * i) s (omega arith)),
        take_all 8 (to_bytes 8 x) (omega (arith, length_digits 8 x)),
      )
      (value-digits-8 x b)

  -- Every earlier number is kept.
  pub number_at-put_at-earlier : (j : ℕ) → j < i → number_at (put_at s i x) j ≡ number_at s j
  unfolding put_at to_bytes
  number_at-put_at-earlier j b =
      let within : 8 * i ≤ length s = omega arith in
      let room : 8 * j + 8 ≤ length (take (8 * i) s) = omega (arith, length-take-le (8 * i) s within) in
      number_at-front (take (8 * i) s) (to_bytes 8 x ++ drop (8 * i + 8) s) j room
      ∙ sym (number_at-front (take (8 * i) s) (drop (length (take (8 * i) s)) s) j room)
      ∙ ap (λ (l : List ℕ). number_at l j) (over-take s (8 * i) within)

  -- Every later number is kept.
  pub number_at-put_at-later : (j : ℕ) → i < j → number_at (put_at s i x) j ≡ number_at s j
  number_at-put_at-later j b = rw (put_at-is-over, number_at-past front s j (omega (arith, length_front)))

  -- So every other number is kept.
  pub number_at-put_at-other : (j : ℕ) → (j ≡ i → ⊥) → number_at (put_at s i x) j ≡ number_at s j
  number_at-put_at-other j ne = elim (dec_lt j i) [
    | yes b ↦ number_at-put_at-earlier j b
    | no b ↦ number_at-put_at-later j (omega arith)
  ]
