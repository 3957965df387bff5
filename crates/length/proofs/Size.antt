-- How large lengths are: they start and stay below the mark, since growth adds at most 2^38 and one halving then leads back below it.
-- Assumes nothing.
use mathlib.Core.Path.{◌≡◌}
use Prim.Native.Nat.{ℕ, ◌+◌, ◌*◌, ◌^◌, ◌≤◌, ◌<◌}
use native.Mathlib.Nat.{mul-le-mul, mul-le-mul_left, mul-le-mul_right, mul-pos, lt_of_mul-lt-mul_left, lt_of_not-le}
use native.Mathlib.Omega.{arith}
use Rattle.arith.specs.Ceiling.{ceil}
use Rattle.arith.proofs.Ceilings.{ceil-below}
use Rattle.length.specs.Length.{scale, mark, start, growth, halving}
use Rattle.length.proofs.Rounding.{start-above, halving-above, halving-below}

-- A quotient that is at most a whole number is so when rounded up.
ceil-most : (a b n : ℕ) → 0 < b → a ≤ b * n → ceil a b ≤ n
ceil-most a b n h e = omega (arith, lt_of_mul-lt-mul_left b {m = ceil a b} {n = n + 1} (omega (arith, ceil-below a b h)))

pub start-positive : (c : ℕ) → 1 ≤ c → 1 ≤ start c
unfolding scale
start-positive c h = lt_of_not-le (λ (e : start c ≤ 0). omega (arith, start-above c h, mul-le-mul_left c e))

pub start-most : (c : ℕ) → 1 ≤ c → start c ≤ scale
unfolding start
start-most c h = ceil-most scale c scale h (omega (arith, mul-le-mul_right scale h))

pub start_fits : (c : ℕ) → 1 ≤ c → start c < mark
unfolding scale mark
start_fits c h = omega (arith, start-most c h)

-- Without a draw a length stays.
pub growth-none : (q c l : ℕ) → 1 ≤ q → 1 ≤ c → growth q 0 c l ≡ l
unfolding growth
growth-none q c l hq hc = omega (arith, ceil-most (l * 0) (q * c) 0 (mul-pos hq hc) (omega arith))

pub growth-least : (q g c l : ℕ) → l ≤ growth q g c l
unfolding growth
growth-least q g c l = omega arith

-- The quotient is at most a fourth of 2^40.
pub growth-most : (q g c l : ℕ) → 4 ≤ q → 1 ≤ c → g ≤ c → l < mark → growth q g c l < mark + 2 ^ 38
unfolding growth mark
growth-most q g c l hq hc hg hl =
    let short : l ≤ 2 ^ 40 = omega arith in
    let drawn : l * g ≤ q * c * 2 ^ 38 = omega (arith, mul-le-mul short hg, mul-le-mul_right c hq) in
    omega (arith, ceil-most (l * g) (q * c) (2 ^ 38) (omega (arith, mul-le-mul_right c hq)) drawn)

pub growth-fits : (q g c l : ℕ) → 4 ≤ q → 1 ≤ c → g ≤ c → l < mark → growth q g c l < 2 ^ 41
unfolding mark
growth-fits q g c l hq hc hg hl = omega (arith, growth-most q g c l hq hc hg hl)

pub halving-positive : (l : ℕ) → 1 ≤ l → 1 ≤ halving l
halving-positive l h = omega (arith, halving-above l)

pub halving-least : (l : ℕ) → mark ≤ l → 2 ^ 39 ≤ halving l
unfolding mark
halving-least l h = omega (arith, halving-above l)

-- What growth makes of a length below the mark is below the mark when halved.
pub halving-most : (l : ℕ) → l < mark + 2 ^ 38 → halving l < mark
unfolding mark
halving-most l h = omega (arith, halving-below l)

pub halving-fits : (l : ℕ) → l < 2 ^ 41 → halving l ≤ mark
unfolding mark
halving-fits l h = omega (arith, halving-below l)

pub halving-falls : (l : ℕ) → halving l ≤ l
halving-falls l = omega (arith, halving-below l)
