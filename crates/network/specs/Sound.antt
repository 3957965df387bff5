-- Document 01's "accepted network": what an accepted call keeps, in numbers. Sound is said of a network and a precision; the name Accepted is the verdict's.
use Rattle.std.specs.Prelude.{◌≡◌, ℕ, ◌≤◌, ◌<◌}
use Rattle.bounds.specs.Bounds.{least_nodes, most_nodes, most_arcs, most_commodities, most_capacity, least_precision, most_precision}
use Rattle.network.specs.Network.{Network, arcs, commodities, tail, head, capacity, limit, source, sink}
use Rattle.network.specs.Resources.{resources}

-- x is one of lo, .., hi
pub record Within (lo hi x : ℕ) : Type 0 where
  pub least : lo ≤ x
  pub most : x ≤ hi

-- a and b are two of the nodes 1, .., n, and not the same
pub record TwoNodes (n a b : ℕ) : Type 0 where
  pub first : Within 1 n a
  pub second : Within 1 n b
  pub differ : a ≡ b → ⊥

-- n nodes, m arcs, r resources, k commodities and the precision q are within document 01's bounds, "The floor and its flow", and C-17's.
pub record Counts (n m r k q : ℕ) : Type 0 where
  pub of-nodes : Within least_nodes most_nodes n
  pub of-arcs : Within 1 most_arcs m
  pub of-resources : r ≤ most_arcs
  pub of-commodities : Within 1 most_commodities k
  pub precision : Within least_precision most_precision q

-- A sound network: its counts, each arc's ends and capacity, each node's limit, and each commodity's ends are within bounds.
pub record Sound (net : Network) (q : ℕ) : Type 0 where
  pub counts : Counts net.nodes (arcs net) (resources net) (commodities net) q
  pub arc-ends : (e : ℕ) → e < arcs net → TwoNodes net.nodes (tail net e) (head net e)
  pub arc-capacity : (e : ℕ) → e < arcs net → Within 1 most_capacity (capacity net e)
  pub node-limit : (v : ℕ) → v ≤ net.nodes → limit net v ≤ most_capacity
  pub commodity-ends : (i : ℕ) → i < commodities net → TwoNodes net.nodes (source net i) (sink net i)
