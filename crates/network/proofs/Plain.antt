-- A network in which no node has a limit: its resources are its arcs. Assumes nothing.
use mathlib.Core.Path.{◌≡◌, refl}
use mathlib.Core.List.{[]}
use Prim.Native.Nat.{ℕ, zero, suc}
use native.Mathlib.Omega.{arith}
use Rattle.network.specs.Network.{Network, arcs, limit}
use Rattle.network.specs.Resources.{limits_below, place, resources}

module _ (net : Network) (h : (v : ℕ) → limit net v ≡ 0) where
  pub none_below : (v : ℕ) → limits_below net v ≡ []
  unfolding limits_below
  none_below zero = refl
  none_below (suc v) = rw (none_below v, h v)

  pub plain-resources : resources net ≡ arcs net
  unfolding resources place
  plain-resources = rw (none_below (suc net.nodes)) (omega arith)

-- in particular where no limits are given
pub not-given : (net : Network) → net.limits ≡ [] → (v : ℕ) → limit net v ≡ 0
not-given net e zero = refl
not-given net e (suc v) = rw e
