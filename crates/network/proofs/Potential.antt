-- Potentials of the nodes of a network, and what weak duality asks of a commodity's amounts
-- (docs/GUARANTEE.md, "The argument", steps 8 and 10).
-- Assumes nothing.
use mathlib.Core.Path.{◌≡◌}
use mathlib.Core.Logic.{◌⊎◌}
use mathlib.Core.Option.{some}
use Prim.Native.Nat.{ℕ, ◌+◌, ◌≤◌, ◌<◌}
use lib.IntN.{ℤ}
use Rattle.signed.specs.Signed.{back}
use Rattle.network.specs.Network.{Network, arcs, tail, head}
use Rattle.network.specs.Flow.{outflow, inflow}
use Rattle.network.specs.Path.{leads}

-- A node with a length is passed through like an arc, so it has two potentials: pi on entering and rho on leaving. By the lengths l of the arcs and w
-- of the nodes they fall along no arc and through no node by more than its length; at s the first is alpha, at t the second is 0.
pub record Potential (net : Network) (l w : ℕ → ℕ) (s t alpha : ℕ) (pi rho : ℕ → ℕ) : Type 0 where
  pub top : pi s ≡ alpha
  pub bottom : rho t ≡ 0
  pub through : (v : ℕ) → 1 ≤ v → v ≤ net.nodes → pi v ≤ w v + rho v
  pub along : (v e u : ℕ) → leads net v e ≡ some u → rho v ≤ l e + pi u

-- What enters a node leaves it, but at s and t, and nothing goes back but where an arc leads back: Flow, for one commodity.
pub record Balanced (net : Network) (f : ℕ → ℤ) (s t : ℕ) : Type 0 where
  pub nodes : (v : ℕ) → 1 ≤ v → v ≤ net.nodes → (v ≡ s → ⊥) → (v ≡ t → ⊥) → inflow net f v ≡ outflow net f v
  pub backs : (e : ℕ) → e < arcs net → (back (f e) ≡ 0) ⊎ (leads net (head net e) e ≡ some (tail net e))
