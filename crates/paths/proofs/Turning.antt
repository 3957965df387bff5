-- The arcs into a node relaxed one after the other, along their places.
-- Assumes nothing.
use mathlib.Core.List.{List}
use Prim.Native.Nat.{ℕ, ◌+◌, ◌≤◌}
use native.Mathlib.Omega.{arith}
use Rattle.network.specs.Network.{Network}
use Rattle.index.specs.Index.{begins, Into}
use Rattle.paths.specs.Searching.{Searching, Any, Passed, Spread}
use Rattle.paths.proofs.Searches.{searching-all}

-- Before the first,
pub spread_none :
    {net : Network} {l : List ℕ} {t : ℕ} {P : ℕ → ℕ → ℕ → Type 0} {d listed : List ℕ} {size : ℕ} →
    Searching net l t P d listed size → Spread net l t P d size d listed size
spread_none S = record { searching = S; weight = omega arith }

-- one more,
pub spread-more :
    {net : Network} {l : List ℕ} {t : ℕ} {P Q : ℕ → ℕ → ℕ → Type 0} {old d listed d' listed' : List ℕ} {size r s : ℕ} →
    Spread net l t P old size d listed r → Spread net l t Q d r d' listed' s → Spread net l t Q old size d' listed' s
spread-more A B = record { searching = B.searching; weight = omega (arith, A.weight, B.weight) }

-- and all of them.
pub spread-all :
    {net : Network} {into l : List ℕ} {t v p : ℕ} {old d listed : List ℕ} {size r : ℕ} →
    Spread net l t (Passed into v p) old size d listed r → Into net into → v ≤ net.nodes → begins into (v + 1) ≤ p →
    Spread net l t Any old size d listed r
spread-all A I b past = record { searching = searching-all A.searching I b past; weight = A.weight }
