-- Numbers below the lengths of the commodities' paths, so that not every commodity has to be searched at every iteration.
use Rattle.std.specs.Prelude.{◌≡◌, List, ℕ, ◌+◌, ◌≤◌, ◌<◌, length, get_or}
use Rattle.network.specs.Network.{Network, commodities, source, sink}
use Rattle.network.specs.Path.{Path, path_length}
use Rattle.network.specs.Resources.{uses}
use Rattle.network.specs.Onward.{node_length}
use Rattle.paths.specs.Far.{far_length}

-- One bound for each commodity, none above the cap with the length of the source, and none above the length of any of its paths.
pub record Below (net : Network) (l bounds : List ℕ) : Type 0 where
  pub each : length bounds ≡ commodities net
  pub capped : (i : ℕ) → i < commodities net → get_or bounds i 0 ≤ far_length + node_length net l (source net i)
  pub lower : (i : ℕ) → i < commodities net → (p : List ℕ) → Path net (source net i) (sink net i) p → get_or bounds i 0 ≤ path_length l (uses net (source net i) p)
