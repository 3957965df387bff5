-- A table of 17 bytes, two numbers and an incomplete third, as the definitions read and write it.
-- Assumes nothing.
use mathlib.Core.Path.{◌≡◌, refl}
use Prim.Native.Nat.{ℕ}
use mathlib.Core.List.{List, [], ◌∷◌}
use Rattle.numbers.specs.Digits.{from_bytes, to_bytes}
use Rattle.numbers.specs.Numbers.{count, items, number_at, column, encode, written, put_at}

table : List ℕ
table = 1 ∷ 2 ∷ 0 ∷ 0 ∷ 0 ∷ 0 ∷ 0 ∷ 0 ∷ 7 ∷ 0 ∷ 0 ∷ 1 ∷ 0 ∷ 0 ∷ 0 ∷ 0 ∷ 9 ∷ []

counted : (count table ≡ 2) × (items 2 table ≡ 1) × (items 3 table ≡ 0)
unfolding table
counted = (refl, refl, refl)

-- 1 + 2 * 256, and 7 + 2 ^ 24
read_out : column table 1 0 2 ≡ 513 ∷ 16777223 ∷ []
unfolding table from_bytes number_at column
read_out = refl

written_in : written table (513 ∷ 258 ∷ []) ≡ put_at table 1 258
unfolding table to_bytes put_at encode written
written_in = refl
