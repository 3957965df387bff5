-- A network of which only the arcs, only the commodities or only the limits are given: what the rows of a single one read.
use Rattle.std.specs.Prelude.{List, [], ℕ}
use Rattle.network.specs.Network.{Network}

-- n nodes and these arcs, with no commodity
abbrev pub of_arcs : ℕ → List ℕ → List ℕ → List ℕ → Network
of_arcs n tails heads capacities = record { nodes = n; tails = tails; heads = heads; capacities = capacities; marks = []; limits = []; sources = []; sinks = [] }

-- n nodes and these commodities, with no arc
abbrev pub of_commodities : ℕ → List ℕ → List ℕ → Network
of_commodities n sources sinks = record { nodes = n; tails = []; heads = []; capacities = []; marks = []; limits = []; sources = sources; sinks = sinks }

-- these limits, with no arc or commodity: what the row of a single limit reads
abbrev pub of_limits : List ℕ → Network
of_limits limits = record { nodes = 0; tails = []; heads = []; capacities = []; marks = []; limits = limits; sources = []; sinks = [] }
