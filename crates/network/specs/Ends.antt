-- What the laws of paths ask of a network. Document 01, "Turned down": an accepted network has such ends (rows 6 and 8).
use Rattle.std.specs.Prelude.{◌≡◌, ℕ, ◌≤◌, ◌<◌}
use Rattle.network.specs.Network.{Network, arcs, commodities, tail, head, source, sink}

-- v is one of the nodes 1 to n.
abbrev pub Node : Network → ℕ → Type 0
Node net v = (1 ≤ v) × (v ≤ net.nodes)

-- Arcs lead from nodes to nodes, and commodities from a node to another.
pub record Ends (net : Network) : Type 0 where
  pub tails : (e : ℕ) → e < arcs net → Node net (tail net e)
  pub heads : (e : ℕ) → e < arcs net → Node net (head net e)
  pub sources : (i : ℕ) → i < commodities net → Node net (source net i)
  pub sinks : (i : ℕ) → i < commodities net → Node net (sink net i)
  pub apart : (i : ℕ) → i < commodities net → source net i ≡ sink net i → ⊥
