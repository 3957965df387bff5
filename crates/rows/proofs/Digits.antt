-- What the digits of a number come to: at most 20 bytes, each a digit, no zero in front, and read as the reader reads they are the number.
-- Assumes nothing.
use mathlib.Core.Path.{◌≡◌, refl}
use mathlib.Core.Bool.{Bool, true, false, cond, ◌&&◌}
use mathlib.Core.List.{List, [], ◌∷◌, ◌++◌}
use Prim.Native.Nat.{ℕ, zero, suc, ◌+◌, ◌*◌, ◌-◌, ◌/◌, ◌%◌, ◌^◌, ◌≤◌, ◌<◌}
use native.Mathlib.Nat.{pow-suc}
use native.Mathlib.Omega.{arith}
use borrow.Author.Tests.{ltb-true, ltb-false}
use lib.Dec.{ltb}
use lib.ListN.{length, get_or, length-append}
use Rattle.lines.specs.Number.{digit, every, from_digits}
use Rattle.lines.proofs.Digits.{digit-in}
use Rattle.rows.specs.Decimal.{digits, decimal}

-- What holds of no digits, of one digit, and of digits with one more behind them, holds of the digits of every number.
module _ (P : ℕ → ℕ → List ℕ → Type 0) (none : (n : ℕ) → P 0 n []) (one : (k n : ℕ) → n < 10 → P (suc k) n ((48 + n) ∷ []))
    (more : (k n : ℕ) (ds : List ℕ) → 10 ≤ n → P k (n / 10) ds → P (suc k) n (ds ++ ((48 + n % 10) ∷ []))) where
  by_digits : (k n : ℕ) → P k n (digits k n)
  unfolding digits
  by_digits zero n = none n
  by_digits (suc k) n = by (ltb n 10) refl (by_digits k (n / 10))
    where
      by : (t : Bool) → ltb n 10 ≡ t → P k (n / 10) (digits k (n / 10)) →
          P (suc k) n (cond t ((48 + n) ∷ []) (digits k (n / 10) ++ ((48 + n % 10) ∷ [])))
      by true e h = one k n (ltb-true n 10 e)
      by false e h = more k n (digits k (n / 10)) (ltb-false n 10 e) h

-- A number takes at most 20 bytes.
pub decimal-short : (n : ℕ) → length (decimal n) ≤ 20
unfolding decimal
decimal-short n =
    by_digits (λ k m ds. length ds ≤ k) (λ m. omega arith) (λ k m h. omega arith) (λ k m ds h l. simp length-append (omega arith)) 20 n

both : (a b : Bool) → (a && b) ≡ true → (a ≡ true) × (b ≡ true)
both true b h = (refl, h)
both false b h = (cc, cc)

every_more : (f : ℕ → Bool) (xs : List ℕ) (b : ℕ) → every f xs ≡ true → f b ≡ true → every f (xs ++ (b ∷ [])) ≡ true
unfolding every
every_more f [] b h k = rw k refl
every_more f (x ∷ xs) b h k =
    let p = both (f x) (every f xs) h in
    rw (p.0, every_more f xs b p.1 k) refl

-- Every byte is a digit.
pub decimal-digits : (n : ℕ) → every digit (decimal n) ≡ true
unfolding decimal every
decimal-digits n =
    by_digits (λ k m ds. every digit ds ≡ true) (λ m. refl)
    (λ k m h. rw (digit-in (48 + m) (omega arith) (omega arith)) refl)
    (λ k m ds h l. every_more digit ds (48 + m % 10) l (digit-in (48 + m % 10) (omega arith) (omega arith)))
    20 n

value-more : (x : ℕ) (xs : List ℕ) (b : ℕ) → from_digits x (xs ++ (b ∷ [])) ≡ from_digits x xs * 10 + (b - 48)
unfolding from_digits
value-more x [] b = refl
value-more x (y ∷ xs) b = value-more (x * 10 + (y - 48)) xs b

-- The reader's value of the digits is the number.
pub decimal-value : (n : ℕ) → n < 10 ^ 20 → from_digits 0 (decimal n) ≡ n
unfolding decimal from_digits
decimal-value n =
    by_digits (λ k m ds. m < 10 ^ k → from_digits 0 ds ≡ m) (λ m h. omega arith) (λ k m h l. omega arith)
    (λ k m ds h e l.
    omega (arith, value-more 0 ds (48 + m % 10), e (omega (arith, rw pow-suc at l))))
    20 n

front : (ds : List ℕ) (b : ℕ) → 48 < get_or ds 0 0 → 48 < get_or (ds ++ (b ∷ [])) 0 0
front [] b h = absurd (omega arith)
front (d ∷ ds) b h = h

-- No zero stands in front, but for 0 itself.
pub decimal-front : (n : ℕ) → 0 < n → n < 10 ^ 20 → 48 < get_or (decimal n) 0 0
unfolding decimal
decimal-front n =
    by_digits (λ k m ds. 0 < m → m < 10 ^ k → 48 < get_or ds 0 0) (λ m p h. absurd (omega arith)) (λ k m h p l. omega arith)
    (λ k m ds h e p l. front ds (48 + m % 10) (e (omega arith) (omega (arith, rw pow-suc at l))))
    20 n
