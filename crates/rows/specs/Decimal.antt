-- A number in digits. Document 01: "All figures are in base ten."
use Rattle.std.specs.Prelude.{cond, List, [], ◌∷◌, ◌++◌, ℕ, zero, suc, ◌+◌, ◌/◌, ◌%◌, ltb}

-- The digits of a number that has at most k, the highest first and no zero in front; the digit d is byte 48 + d.
unfoldable pub digits : ℕ → ℕ → List ℕ
digits zero n = []
digits (suc k) n = cond (ltb n 10) ((48 + n) ∷ []) (digits k (n / 10) ++ ((48 + n % 10) ∷ []))

-- The digits of a number of 64 bits, which has at most 20.
unfoldable pub decimal : ℕ → List ℕ
decimal n = digits 20 n
