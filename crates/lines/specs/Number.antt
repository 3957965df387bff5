-- The number that a word writes. Document 01, "File and listing": "a number has 1 to 9 digits".
use Rattle.std.specs.Prelude.{Bool, true, cond, ◌&&◌, List, [], ◌∷◌, ℕ, ◌+◌, ◌*◌, ◌-◌, leb, length, Option, Some, None}

-- a digit, bytes 48 to 57
unfoldable pub digit : ℕ → Bool
digit b = leb 48 b && leb b 57

-- every member passes the test
unfoldable pub every : (ℕ → Bool) → List ℕ → Bool
every f [] = true
every f (x ∷ xs) = f x && every f xs

-- the value of digits, the highest first, that follow digits of value x
unfoldable pub from_digits : ℕ → List ℕ → ℕ
from_digits x [] = x
from_digits x (b ∷ bs) = from_digits (x * 10 + (b - 48)) bs

-- The number of a word: 1 to 9 digits, and nothing else. Zeros may lead.
unfoldable pub number_of : List ℕ → Option ℕ
number_of w = cond (leb 1 (length w) && leb (length w) 9 && every digit w) (Some (from_digits 0 w)) None
