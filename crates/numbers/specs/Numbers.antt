-- Numbers in byte slices: "In a byte slice each number takes eight bytes, lowest first; an incomplete last item is not read"
-- (document 01, "The floor and its flow"). Assumes nothing.
use Rattle.std.specs.Prelude.{ℕ, zero, suc, ◌+◌, ◌*◌, ◌/◌, List, [], ◌∷◌, ◌++◌, length, take, drop}
use Rattle.numbers.specs.Digits.{from_bytes, to_bytes}

-- How many complete numbers the bytes hold.
abbrev pub count : List ℕ → ℕ
count s = length s / 8

-- How many complete items of k numbers the bytes hold: "m and k are the counts of complete items".
abbrev pub items : ℕ → List ℕ → ℕ
items k s = length s / (8 * k)

-- Number i, counted from 0, in the eight bytes from 8 * i on.
unfoldable pub number_at : List ℕ → ℕ → ℕ
number_at s i = from_bytes (take 8 (drop (8 * i) s))

-- Member j, counted from 0, of each of the first n items of k numbers, in order.
unfoldable pub column : List ℕ → ℕ → ℕ → ℕ → List ℕ
column s k j zero = []
column s k j (suc n) = column s k j n ++ (number_at s (k * n + j) ∷ [])

-- The bytes of a list of numbers, eight each.
unfoldable pub encode : List ℕ → List ℕ
encode [] = []
encode (x ∷ xs) = to_bytes 8 x ++ encode xs

-- The bytes of a lent table once its first numbers are xs: "later places keep their contents"
-- (document 01, "One choice of route"), also those of an incomplete last number.
unfoldable pub written : List ℕ → List ℕ → List ℕ
written s xs = encode xs ++ drop (8 * length xs) s

-- The same once number i is x: every other byte keeps its contents.
unfoldable pub put_at : List ℕ → ℕ → ℕ → List ℕ
put_at s i x = take (8 * i) s ++ (to_bytes 8 x ++ drop (8 * i + 8) s)
