-- The network that a file holds, by its counts.
use Rattle.std.specs.Prelude.{◌≡◌, [], length, replicate}
use Rattle.bounds.specs.Bounds.{least_nodes, most_nodes, most_arcs}
use Rattle.network.specs.Network.{Network, arcs}
use Rattle.network.specs.Sound.{Within}

-- Nodes and arcs within their bounds, a head and a capacity for each arc, no arc reversible, no node limited, and one commodity.
pub record OneCommodity (net : Network) : Type 0 where
  pub of-nodes : Within least_nodes most_nodes net.nodes
  pub of-arcs : Within 1 most_arcs (arcs net)
  pub of-heads : length net.heads ≡ arcs net
  pub of-capacities : length net.capacities ≡ arcs net
  pub of-marks : net.marks ≡ replicate (arcs net) 0
  pub of-limits : net.limits ≡ []
  pub of-sources : length net.sources ≡ 1
  pub of-sinks : length net.sinks ≡ 1
