-- The caps of lengths and of distances, and the lengths that they are made for.
use Rattle.std.specs.Prelude.{List, ℕ, ◌*◌, ◌^◌, ◌<◌, get_or}
use Rattle.bounds.specs.Bounds.{most_nodes}
use Rattle.network.specs.Network.{Network}
use Rattle.network.specs.Resources.{resources}

-- Past the length of every path that visits no node twice: at most 64 nodes and 63 arcs, and lengths below 2^40. Document 01, "The floor and its flow",
-- "One choice of route".
abbrev pub far_length : ℕ
far_length = 2 ^ 47

-- Past the key of every such path.
abbrev pub far : ℕ
far = most_nodes * far_length

-- The lengths of a run: each below the mark at which all are halved. Document 01, "One choice of route".
abbrev pub Bounded : Network → List ℕ → Type 0
Bounded net l = (e : ℕ) → e < resources net → get_or l e 0 < 2 ^ 40
