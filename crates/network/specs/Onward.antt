-- The length of a node, and that of a path without its first node. No contract of a call rests on them.
use Rattle.std.specs.Prelude.{List, [], ◌∷◌, ℕ, ◌+◌, get_or}
use Rattle.network.specs.Network.{Network}
use Rattle.network.specs.Path.{beyond, path_length}
use Rattle.network.specs.Resources.{used_at}

-- The length of node v by the lengths l of the resources: 0 if it is not limited.
unfoldable pub node_length : Network → List ℕ → ℕ → ℕ
node_length net l v = path_length l (used_at net v)

-- The lengths of the arcs of a path from v, each with that of the node where it leads.
unfoldable pub onward : Network → List ℕ → ℕ → List ℕ → ℕ
onward net l v [] = 0
onward net l v (e ∷ p) = get_or l e 0 + node_length net l (beyond net v e) + onward net l (beyond net v e) p
