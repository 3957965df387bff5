-- What the choice rule comes to, in the words of document 01, "One choice of route", and of request C-16.
use Rattle.std.specs.Prelude.{◌≡◌, List, ℕ, ◌≤◌, ◌<◌, length}
use Rattle.arith.specs.Distinct.{Distinct}
use Rattle.network.specs.Network.{Network, commodities, source, sink}
use Rattle.network.specs.Path.{Path, path_length}
use Rattle.network.specs.Resources.{uses}
use Rattle.network.specs.Visited.{visited}
use Rattle.method.specs.Choice.{Choice, used_by}
use Rattle.method.specs.Order.{Before}

-- c is the choice by the lengths l, paths having any number of arcs. What the rule chooses is so (proofs/Choosing), and nothing else is
-- (proofs/Unique).
pub record Chosen (net : Network) (l : List ℕ) (c : Choice) : Type 0 where
  -- its commodity is one of the network's, and its path a path for that commodity
  pub commodity : c.commodity < commodities net
  pub path : Path net (source net c.commodity) (sink net c.commodity) c.path
  -- no path of any commodity is shorter
  pub shortest :
      (i : ℕ) (p : List ℕ) → i < commodities net → Path net (source net i) (sink net i) p →
      path_length l (used_by net c) ≤ path_length l (uses net (source net i) p)
  -- lower-numbered commodities have only longer paths
  pub lowest :
      (i : ℕ) (p : List ℕ) → i < c.commodity → Path net (source net i) (sink net i) p →
      path_length l (used_by net c) < path_length l (uses net (source net i) p)
  -- no path of its commodity that is as short has fewer arcs
  pub fewest :
      (p : List ℕ) → Path net (source net c.commodity) (sink net c.commodity) p → path_length l (uses net (source net c.commodity) p) ≡ path_length l (used_by net c) →
      length c.path ≤ length p
  -- and of those with as few none is before it in dictionary order
  pub first :
      (p : List ℕ) → Path net (source net c.commodity) (sink net c.commodity) p → path_length l (uses net (source net c.commodity) p) ≡ path_length l (used_by net c) →
      length p ≡ length c.path → Before p c.path → ⊥
  -- it visits no node twice, and has at most n - 1 arcs
  pub distinct : Distinct (visited net (source net c.commodity) c.path)
  pub few : length c.path < net.nodes
