-- The length of an arc in whole numbers: its start, its growth and its halving, every quotient rounded up.
-- Assumes nothing.
use Rattle.std.specs.Prelude.{ℕ, ◌+◌, ◌*◌, ◌^◌}
use Rattle.arith.specs.Ceiling.{ceil}

-- "Lengths start from the scale 2^36" (document 01, "One choice of route")
unfoldable pub scale : ℕ
scale = 2 ^ 36

-- "and are halved at the mark 2^40" (the same)
unfoldable pub mark : ℕ
mark = 2 ^ 40

-- "A belt of capacity c starts at 2^36 / c, rounded up" (the same)
unfoldable pub start : ℕ → ℕ
start c = ceil scale c

-- "l becomes l + (l × g) / (q × c), the quotient rounded up" (the same): precision q, draw g, capacity c
unfoldable pub growth : ℕ → ℕ → ℕ → ℕ → ℕ
growth q g c l = l + ceil (l * g) (q * c)

-- "every length is halved once, rounded up" (the same)
unfoldable pub halving : ℕ → ℕ
halving l = ceil l 2
