-- No flow carries more than the bound: where every path of every commodity is at least alpha long, D over alpha; where no commodity is
-- joined, nothing (docs/GUARANTEE.md, "The argument", step 8).
-- Assumes nothing.
use mathlib.Core.Path.{◌≡◌}
use mathlib.Core.List.{List, []}
use Prim.Native.Nat.{ℕ, ◌*◌, ◌≤◌, ◌<◌}
use native.Mathlib.Omega.{arith}
use lib.ListN.{get_or}
use Rattle.arith.proofs.Sums.{sum-cong, sum-zero}
use Rattle.network.specs.Network.{Network, commodities, source, sink}
use Rattle.network.specs.Path.{Path, Joined, path_length}
use Rattle.network.specs.Resources.{resources, resource_capacity, uses}
use Rattle.network.specs.Ends.{Ends}
use Rattle.network.proofs.Duality.{Bounds, duality}
use Rattle.method.specs.Iteration.{weight}
use Rattle.method.proofs.Distance.{on_entering, on_leaving, distance-potential}

-- Every path of every commodity is at least alpha long.
abbrev pub Far : Network → List ℕ → ℕ → Type 0
Far net l alpha = (i : ℕ) → i < commodities net → (p : List ℕ) → Path net (source net i) (sink net i) p → alpha ≤ path_length l (uses net (source net i) p)

module _ (net : Network) (ends : Ends net) where
  -- Document 01, "One choice of route": D over alpha is a bound. Where every path is at least alpha long, no flow carries more.
  pub bounded : (l : List ℕ) (alpha : ℕ) → Far net l alpha → Bounds net (weight net l) alpha
  unfolding weight
  bounded l alpha far =
      duality
      net
      ends
      (λ e. get_or l e 0)
      alpha
      (λ i. on_entering net l alpha (sink net i))
      (λ i. on_leaving net l alpha (sink net i))
      (λ i b. distance-potential net ends l alpha (sink net i) (source net i) (far i b))

  -- Where all lengths are 0, D is 0.
  weightless : weight net [] ≡ 0
  unfolding weight
  weightless = rw (sum-cong (resources net) (λ e. resource_capacity net e * get_or [] e 0) (λ e. 0) (λ e b. omega arith)) (sum-zero (resources net))

  -- Where no commodity is joined, every flow carries at most 0: the bound for lengths 0 and alpha 1, since no path is there to be shorter.
  pub unjoined-bounded :
      ((i : ℕ) → i < commodities net → Joined net i → ⊥) → Bounds net 0 1
  unjoined-bounded cut d f flow keeps =
      rw weightless at (bounded [] 1 (λ i b p path. absurd (cut i b (p, path))) d f flow keeps)
