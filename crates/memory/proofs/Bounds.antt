-- Bounds below the lengths of paths: they stay so while lengths grow, and when they rise to what a feasible table tells.
-- Assumes nothing.
use mathlib.Core.Path.{◌≡◌, ◌∙◌}
use mathlib.Core.Logic.{⊎_elim}
use mathlib.Core.List.{List, [], ◌∷◌}
use Prim.Native.Nat.{ℕ, ◌+◌, ◌≤◌, ◌<◌}
use native.Mathlib.Nat.{le_refl}
use native.Mathlib.Omega.{arith}
use lib.ListN.{get_or, replicate, length-replicate}
use Rattle.arith.proofs.Lists.{all_replicate}
use Rattle.arith.proofs.Order.{le-or-lt}
use Rattle.bounds.specs.Bounds.{most_nodes}
use Rattle.network.specs.Ends.{Ends}
use Rattle.network.specs.Network.{Network, commodities, source, sink}
use Rattle.network.specs.Path.{Path, path_length}
use Rattle.network.specs.Resources.{used_at, uses}
use Rattle.network.specs.Onward.{node_length}
use Rattle.network.proofs.Uses.{uses-length}
use Rattle.paths.specs.Distances.{Feasible}
use Rattle.paths.specs.Far.{far_length, far}
use Rattle.paths.specs.Graph.{Capped, Table}
use Rattle.paths.proofs.Telling.{feasible-shortest}
use Rattle.memory.specs.Below.{Below}
use Rattle.memory.specs.Raised.{told_by, length_by, Raised}

-- A path is no shorter by greater lengths.
path_length-grown : (l m : List ℕ) → ((e : ℕ) → get_or l e 0 ≤ get_or m e 0) → (p : List ℕ) → path_length l p ≤ path_length m p
unfolding path_length
path_length-grown l m h [] = le_refl 0
path_length-grown l m h (e ∷ p) = omega (arith, h e, path_length-grown l m h p)

-- So is a node,
node_length-grown : (net : Network) (l m : List ℕ) → ((e : ℕ) → get_or l e 0 ≤ get_or m e 0) → (v : ℕ) → node_length net l v ≤ node_length net m v
unfolding node_length
node_length-grown net l m h v = path_length-grown l m h (used_at net v)

-- so that a feasible table is kept while lengths grow,
pub feasible-grown : {net : Network} {l m d : List ℕ} {t : ℕ} → ((e : ℕ) → get_or l e 0 ≤ get_or m e 0) → Feasible net l d t → Feasible net m d t
feasible-grown {net} {l} {m} h F =
    record { sink = F.sink; arcs = λ u e w led. omega (arith, F.arcs u e w led, h e, node_length-grown net l m h w) }

-- and bounds are.
pub below-grown : {net : Network} {l m bounds : List ℕ} → ((e : ℕ) → get_or l e 0 ≤ get_or m e 0) → Below net l bounds → Below net m bounds
below-grown {net} {l} {m} h B =
    record {
      each = B.each;
      capped = λ i b. omega (arith, B.capped i b, node_length-grown net l m h (source net i));
      lower = λ i b p r. omega (arith, B.lower i b p r, path_length-grown l m h (uses net (source net i) p));
    }

-- Zeros are below whatever the lengths.
pub below-zero : (net : Network) (l : List ℕ) {n : ℕ} → n ≡ commodities net → Below net l (replicate n 0)
below-zero net l {n} q =
    record {
      each = length-replicate n 0 ∙ q;
      capped = λ i b. all_replicate (λ x. x ≤ far_length + node_length net l (source net i)) 0 n (omega arith) i;
      lower = λ i b p r. all_replicate (λ x. x ≤ path_length l (uses net (source net i) p)) 0 n (omega arith) i;
    }

module _ {net : Network} {l d old new : List ℕ} (ends : Ends net) (few : net.nodes ≤ most_nodes)
    (B : Below net l old) (R : Raised (node_length net l) net.sources net.sinks d old new (commodities net)) where
  -- What a table tells of commodity i.
  abbrev told : ℕ → ℕ
  told i = told_by (node_length net l) d (source net i) (sink net i)

  -- A bound is what it was or what the table tells.
  by_one : (P : ℕ → ℕ → Type 0) → ((i : ℕ) → i < commodities net → P i (told i)) → ((i : ℕ) → i < commodities net → P i (get_or old i 0)) →
      (i : ℕ) → i < commodities net → P i (get_or new i 0)
  by_one P now was i b =
      ⊎_elim
      (λ (q : get_or new i 0 ≡ get_or old i 0). rw q (was i b))
      (λ (q : get_or new i 0 ≡ told i). rw q (now i b))
      (R.each i b).one

  -- They are still below the lengths of the paths, whatever the node that the table is for.
  pub below_raised : {t : ℕ} → Feasible net l d t → Capped net d far → Below net l new
  below_raised F capped =
      record {
        each = R.size ∙ B.each;
        capped = by_one (λ i x. x ≤ far_length + node_length net l (source net i)) (λ i b. omega (arith, capped (source net i) (ends.sources i b).1)) B.capped;
        lower = by_one (λ i x. (p : List ℕ) → Path net (source net i) (sink net i) p → x ≤ path_length l (uses net (source net i) p))
            (λ i b p r. omega (
              arith,
              feasible-shortest ends few F (source net i) (sink net i) (ends.sources i b) p r,
              uses-length net l (source net i) (sink net i) p r,
            ))
            B.lower;
      }

  -- By the distances to its own sink the bound of a commodity is the length in that of its source: below the cap it is that of a path, and at the cap no
  -- bound is above it.
  pub raised-shared : {t : ℕ} → Table net l d t far → (i : ℕ) → i < commodities net → sink net i ≡ t → get_or new i 0 ≡ length_by net l d i
  raised-shared {t} T i b q =
      let zero : get_or d (sink net i) 0 ≡ 0 = rw q T.distances.feasible.sink in
      let le : get_or old i 0 ≤ length_by net l d i =
      ⊎_elim
      (λ (h : far ≤ get_or d (source net i) 0). omega (arith, B.capped i b))
      (λ (h : get_or d (source net i) 0 < far).
      let w = T.some-path (source net i) (ends.sources i b) h in
      omega (arith, B.lower i b w.0 (rw q w.1), w.2, uses-length net l (source net i) t w.0 w.1))
      (le-or-lt far (get_or d (source net i) 0)) in
      ⊎_elim
      (λ (e : get_or new i 0 ≡ get_or old i 0). omega (arith, le, zero, (R.each i b).second))
      (λ (e : get_or new i 0 ≡ told i). omega (arith, zero))
      (R.each i b).one
