-- `search::relax::relax_into` meets its contract: the arcs at the places of v before the present one are relaxed.
-- Assumes nothing.
use mathlib.Core.Path.{◌≡◌}
use mathlib.Core.List.{List}
use Prim.Native.Nat.{ℕ}
use lib.ListN.{get_or}
use Rattle.network.specs.Network.{Network}
use Rattle.packed.specs.Packed.{net_in}
use Rattle.paths.specs.Searching.{Passed, Spread}
use Rattle.search.proofs.relax.relax_into.Given as goal

-- the arcs at the places before p are relaxed
pub record Relaxing (net : Network) (into l : List ℕ) (t v : ℕ) (dist₀ : List ℕ) (size : ℕ) (dist listed : List ℕ) (r p : ℕ) : Type 0 where
  pub spread : Spread net l t (Passed into v p) dist₀ size dist listed r
  pub head : get_or dist v 0 ≡ get_or dist₀ v 0

abbrev pub invariant-loop-p : goal.invariant-loop-p
invariant-loop-p l = Relaxing (net_in l.net.shape l.net.numbers.now) l.into l.lengths l.sink l.v l.initial.dist l.size l.dist l.listed l.count l.p
