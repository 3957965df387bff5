-- What a flow uses up: the arcs, and the nodes that have a limit. Request C-17: a limited station has a length, a load and a place in D as a belt has.
-- Resources are counted from 0: the arcs by their numbers, then the limited nodes in order.
use Rattle.std.specs.Prelude.{cond, List, [], ◌∷◌, ◌++◌, map, ℕ, zero, suc, ◌+◌, length, get_or}
use Rattle.arith.specs.Lists.{up_to, flat}
use Rattle.network.specs.Network.{Network, arcs, capacity, limit, limited}
use Rattle.network.specs.Visited.{visited}

-- The limits of the nodes below v that have one, in order.
unfoldable pub limits_below : Network → ℕ → List ℕ
limits_below net zero = []
limits_below net (suc v) = limits_below net v ++ cond (limited net v) (limit net v ∷ []) []

-- The resource that node v is, if it is limited: it comes after the arcs and the limited nodes below it.
unfoldable pub place : Network → ℕ → ℕ
place net v = arcs net + length (limits_below net v)

-- How many resources there are: document 01's m from request C-17 on, but for the flow table.
unfoldable pub resources : Network → ℕ
resources net = place net (suc net.nodes)

-- Their capacities: those of the arcs, then the limits.
unfoldable pub resource_capacities : Network → List ℕ
resource_capacities net = map (capacity net) (up_to (arcs net)) ++ limits_below net (suc net.nodes)

-- the capacity of resource r
abbrev pub resource_capacity : Network → ℕ → ℕ
resource_capacity net r = get_or (resource_capacities net) r 0

-- What a path uses of node v: its resource, if it is limited.
unfoldable pub used_at : Network → ℕ → List ℕ
used_at net v = cond (limited net v) (place net v ∷ []) []

-- What a path p from v uses: its arcs, and the limited nodes that it visits, the first and the last among them.
unfoldable pub uses : Network → ℕ → List ℕ → List ℕ
uses net v p = p ++ flat (used_at net) (visited net v p)
