-- What a look at every commodity asks of the network, by the lengths l.
use Rattle.std.specs.Prelude.{List, ℕ, ◌≤◌}
use Rattle.bounds.specs.Bounds.{most_nodes}
use Rattle.network.specs.Network.{Network, commodities}
use Rattle.paths.specs.Graph.{Fit}
use Rattle.paths.specs.Order.{distance_numbers}

-- The tables fit, there are no more nodes than the cap allows, and some commodity.
pub record Survey (net : Network) (l : List ℕ) : Type 0 where
  pub fit : Fit net l distance_numbers
  pub few : net.nodes ≤ most_nodes
  pub some : 1 ≤ commodities net
