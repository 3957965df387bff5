-- Whole numbers written in limbs of 32 bits, lowest first.
use Rattle.std.specs.Prelude.{◌≡◌, List, [], ◌∷◌, ℕ, ◌+◌, ◌*◌, ◌^◌, ◌<◌, length, get_or}

-- what a limb is below: a product of two, with a limb and a carry added, is below 2 ^ 64
abbrev pub base : ℕ
base = 2 ^ 32

-- how many limbs a wide number has
abbrev pub width : ℕ
width = 5

-- what a wide number is below
unfoldable pub limit : ℕ
limit = base ^ width

-- the number that limbs write
unfoldable pub from_limbs : List ℕ → ℕ
from_limbs [] = 0
from_limbs (x ∷ xs) = x + base * from_limbs xs

-- xs is n limbs
pub record Limbs (n : ℕ) (xs : List ℕ) : Type 0 where
  pub size : length xs ≡ n
  pub below : (i : ℕ) → get_or xs i 0 < base

-- xs is the limbs of a wide number, and writes v
pub record Writes (xs : List ℕ) (v : ℕ) : Type 0 where
  pub limbs : Limbs width xs
  pub number : from_limbs xs ≡ v
