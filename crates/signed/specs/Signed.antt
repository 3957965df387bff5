-- Signed amounts: one number for what goes forward on an arc or, if it is negative, back. Source document 000, section 3.1, undirected case.
-- Assumes nothing.
use Rattle.std.specs.Prelude.{Bool, true, false, ℕ, suc, ◌+◌, ◌-◌, ◌^◌, ℤ, pos, negsuc, ◌+ℤ◌, ◌-ℤ◌}

-- What goes forward: the amount, or 0 where it is negative.
unfoldable pub ahead : ℤ → ℕ
ahead (pos n) = n
ahead (negsuc n) = 0

-- What goes back: -(n + 1) is n + 1 back.
unfoldable pub back : ℤ → ℕ
back (pos n) = 0
back (negsuc n) = suc n

-- The size of an amount. One of the two parts is 0.
abbrev pub size : ℤ → ℕ
size x = ahead x + back x

-- The amount once g more goes forward, or back.
abbrev pub moved : Bool → ℕ → ℤ → ℤ
moved true g x = x +ℤ pos g
moved false g x = x -ℤ pos g

-- Two's complement in 64 bits: how a byte slice has a negative amount.
unfoldable pub twos : ℤ → ℕ
twos (pos n) = n
twos (negsuc n) = 2 ^ 64 - suc n
