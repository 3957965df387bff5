-- How the digits of a number come about: one digit, or those of a tenth and a last one. What they come to is in `Digits`.
-- Assumes nothing.
use mathlib.Core.Path.{◌≡◌, sym, ap, ◌∙◌}
use mathlib.Core.Logic.{⊎_elim}
use mathlib.Core.List.{[], ◌∷◌, ◌++◌}
use Prim.Native.Nat.{ℕ, zero, suc, ◌+◌, ◌/◌, ◌%◌, ◌^◌, ◌≤◌, ◌<◌}
use native.Mathlib.Nat.{pow-suc}
use native.Mathlib.Omega.{arith}
use borrow.Author.Tests.{lt-ltb, le-ltb}
use Rattle.arith.proofs.Order.{le-or-lt}
use Rattle.rows.specs.Decimal.{digits, decimal}

digits-one : (k n : ℕ) → n < 10 → digits (suc k) n ≡ (48 + n) ∷ []
unfolding digits
digits-one k n h = rw (lt-ltb n 10 h)

digits_more : (k n : ℕ) → 10 ≤ n → digits (suc k) n ≡ digits k (n / 10) ++ ((48 + n % 10) ∷ [])
unfolding digits
digits_more k n h = rw (le-ltb n 10 h)

-- More room than a number has digits changes nothing.
digits-enough : (k n : ℕ) → n < 10 ^ suc k → digits (suc (suc k)) n ≡ digits (suc k) n
digits-enough zero n h = digits-one 1 n h ∙ sym (digits-one 0 n h)
digits-enough (suc k) n h =
    ⊎_elim
    (λ (m : 10 ≤ n).
    digits_more (suc (suc k)) n m ∙
    (ap (λ ds. ds ++ ((48 + n % 10) ∷ [])) (digits-enough k (n / 10) (omega (arith, rw pow-suc at h))) ∙ sym (digits_more (suc k) n m)))
    (λ (l : n < 10). digits-one (suc (suc k)) n l ∙ sym (digits-one (suc k) n l))
    (le-or-lt 10 n)

pub decimal-one : (n : ℕ) → n < 10 → decimal n ≡ (48 + n) ∷ []
unfolding decimal
decimal-one n h = digits-one 19 n h

pub decimal-more : (n : ℕ) → 10 ≤ n → n < 10 ^ 20 → decimal n ≡ decimal (n / 10) ++ ((48 + n % 10) ∷ [])
unfolding decimal
decimal-more n h l =
    digits_more 19 n h ∙ ap (λ ds. ds ++ ((48 + n % 10) ∷ [])) (sym (digits-enough 18 (n / 10) (omega arith)))
