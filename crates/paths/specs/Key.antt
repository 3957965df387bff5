-- What a search compares paths by: one number, in which the length counts first and then the number of arcs. Request C-16.
use Rattle.std.specs.Prelude.{List, ℕ, ◌+◌, ◌*◌, ◌/◌, length, get_or}
use Rattle.bounds.specs.Bounds.{most_nodes}
use Rattle.network.specs.Network.{Network}
use Rattle.network.specs.Onward.{onward}

-- The key of a path from v, whose own length does not count: a path that visits no node twice has fewer arcs than most_nodes, so that its arcs never
-- outweigh a length of 1.
abbrev pub path_key : Network → List ℕ → ℕ → List ℕ → ℕ
path_key net l v p = most_nodes * onward net l v p + length p

-- What an arc adds to it that leads to a node of the length x.
abbrev pub arc_key : List ℕ → ℕ → ℕ → ℕ
arc_key l x e = most_nodes * (get_or l e 0 + x) + 1

-- The length that a key tells.
abbrev pub length_of : ℕ → ℕ
length_of x = x / most_nodes
