-- Document 01's bounds on a network and its call, each named once for the definitions. Assumes nothing.
use Rattle.std.specs.Prelude.{ℕ, ◌^◌}

-- "n from 2 to 64" (document 01, "The floor and its flow")
abbrev pub least_nodes : ℕ
least_nodes = 2

abbrev pub most_nodes : ℕ
most_nodes = 64

-- "m from 1 to 256"; belts plus limits no more either (request C-17)
abbrev pub most_arcs : ℕ
most_arcs = 256

-- "k from 1 to 32"
abbrev pub most_commodities : ℕ
most_commodities = 32

-- "capacity 1 to 1,000", and a limit (request C-17)
abbrev pub most_capacity : ℕ
most_capacity = 1000

-- "precision q 4 to 16"
abbrev pub least_precision : ℕ
least_precision = 4

abbrev pub most_precision : ℕ
most_precision = 16

-- "running count above 2^63"
abbrev pub most_running : ℕ
most_running = 2 ^ 63

-- "one for each office, 1 to 8" (request C-20)
abbrev pub offices : ℕ
offices = 8

-- "the seven numbers of the answer" ("The floor and its flow")
abbrev pub answer_numbers : ℕ
answer_numbers = 7

-- "its number × 1,000 + its place"
abbrev pub place_numbers : ℕ
place_numbers = 1000
