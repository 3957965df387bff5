-- The network that one slice of numbers holds. A column that is added later is added here, and to the functions that fill the slice.
-- Assumes nothing.
use Rattle.std.specs.Prelude.{◌≡◌, List, ℕ, ◌≤◌, length}
use Rattle.bounds.specs.Bounds.{most_nodes, most_arcs, most_commodities}
use Rattle.network.specs.Network.{Network}
use Rattle.network.specs.Resources.{resources}
use Rattle.network.specs.Sound.{Sound}
use Rattle.packed.specs.declared.Net.{Net}
use Rattle.packed.specs.declared.Shape.{Shape}
pub use Rattle.packed.specs.Part.{part, put}

-- Where the columns begin, as src/lib.rt names them, and how many numbers they take.
abbrev pub tails_from : ℕ
tails_from = 0

abbrev pub heads_from : ℕ
heads_from = 256

abbrev pub capacities_from : ℕ
capacities_from = 512

abbrev pub sources_from : ℕ
sources_from = 768

abbrev pub sinks_from : ℕ
sinks_from = 800

abbrev pub marks_from : ℕ
marks_from = 832

abbrev pub limits_from : ℕ
limits_from = 1088

abbrev pub net_numbers : ℕ
net_numbers = 1152

-- The network.
unfoldable pub net_in : Shape → List ℕ → Network
net_in s xs =
    record {
      nodes = s.nodes;
      tails = part tails_from s.arcs xs;
      heads = part heads_from s.arcs xs;
      capacities = part capacities_from s.arcs xs;
      marks = part marks_from s.arcs xs;
      limits = part limits_from s.limits xs;
      sources = part sources_from s.commodities xs;
      sinks = part sinks_from s.commodities xs;
    }

-- The network of a shape with its columns.
abbrev pub network_of : Net → Network
network_of net = net_in net.shape net.numbers.now

-- The columns do not overlap, and the slice has them all.
pub record Packed (s : Shape) (xs : List ℕ) : Type 0 where
  pub few-nodes : s.nodes ≤ most_nodes
  pub few-limits : s.limits ≤ s.nodes
  pub few-arcs : s.arcs ≤ most_arcs
  pub few-commodities : s.commodities ≤ most_commodities
  pub places : net_numbers ≤ length xs

-- An accepted network at precision q.
pub record Lent (s : Shape) (q : ℕ) (xs : List ℕ) : Type 0 where
  pub sound : Sound (net_in s xs) q
  pub packed : Packed s xs
  pub counted : s.resources ≡ resources (net_in s xs)

-- The tables of the resources stand in one slice in the same way: their lengths,
abbrev pub lengths_from : ℕ
lengths_from = 0

abbrev pub lengths_in : Shape → List ℕ → List ℕ
lengths_in s xs = part lengths_from s.resources xs

-- their loads,
abbrev pub loads_from : ℕ
loads_from = 256

abbrev pub loads_in : Shape → List ℕ → List ℕ
loads_in s xs = part loads_from s.resources xs

-- and the lengths that are kept;
abbrev pub kept_from : ℕ
kept_from = 512

abbrev pub kept_in : Shape → List ℕ → List ℕ
kept_in s xs = part kept_from s.resources xs

-- and so many numbers they take.
abbrev pub table_numbers : ℕ
table_numbers = 768
