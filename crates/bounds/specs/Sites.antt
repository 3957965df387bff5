-- Request C-14's bounds on a site. Assumes nothing.
use Rattle.std.specs.Prelude.{ℕ}

-- "no networks or more than 16" (request C-14)
abbrev pub most_networks : ℕ
most_networks = 16

-- "an item of six numbers a floor", and how many limits (requests C-14 and C-17)
abbrev pub floor_numbers : ℕ
floor_numbers = 7
