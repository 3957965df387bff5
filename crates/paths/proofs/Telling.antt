-- What a feasible table tells, and one of distances: a least key is that of a path without a loop,
-- so it tells the length of that path.
-- Assumes nothing.
use mathlib.Core.Path.{◌≡◌}
use mathlib.Core.List.{List}
use Prim.Native.Nat.{ℕ, ◌-◌, ◌≤◌, ◌<◌}
use native.Mathlib.Omega.{arith}
use lib.ListN.{get_or}
use Rattle.bounds.specs.Bounds.{most_nodes}
use Rattle.network.specs.Ends.{Node, Ends}
use Rattle.network.specs.Network.{Network}
use Rattle.network.specs.Onward.{onward}
use Rattle.network.specs.Path.{Path}
use Rattle.network.proofs.Shortcuts.{shortcut, shortcut-few}
use Rattle.paths.specs.Distances.{Feasible, Distances}
use Rattle.paths.specs.Key.{length_of}
use Rattle.paths.specs.Walk.{Walk}
use Rattle.paths.proofs.Descent.{distance-path}
use Rattle.paths.proofs.Lower.{telescopes}
use Rattle.paths.proofs.Simple.{walk-few}
use Rattle.paths.proofs.Walks.{walk-path, walk-key}

module _ {net : Network} {l d : List ℕ} {t : ℕ} (ends : Ends net) (few : net.nodes ≤ most_nodes) (F : Feasible net l d t) where
  -- A walk has the length that the entry of its start tells.
  pub walk-length : {v : ℕ} {p : List ℕ} → Node net v → Walk net l d t v p → onward net l v p ≡ length_of (get_or d v 0)
  walk-length node w = omega (arith, walk-key w, F.sink, walk-few ends F node w)

  -- Whatever t, no path between two nodes is shorter than the length in what the entry of the first is above that of the second: the shortcut of a path
  -- has fewer arcs than most_nodes, so its arcs cannot make up for a length.
  pub feasible-shortest : (v u : ℕ) → Node net v → (p : List ℕ) → Path net v u p → length_of (get_or d v 0 - get_or d u 0) ≤ onward net l v p
  feasible-shortest v u node p h =
      let s = shortcut net v u p h in
      omega (arith, s.no_longer l, shortcut-few net v u ends node p s, telescopes F v u s.path s.leads)

module _ {net : Network} {l d : List ℕ} {t far : ℕ} (ends : Ends net) (few : net.nodes ≤ most_nodes) (D : Distances net l d t far) where
  -- Below the cap some path has the length in a distance.
  pub distance-length : (v : ℕ) → Node net v → get_or d v 0 < far → (p : List ℕ) × Path net v t p × (onward net l v p ≡ length_of (get_or d v 0))
  distance-length v node near =
      let w = distance-path ends D v node near in (w.0, walk-path w.1, walk-length ends few D.feasible node w.1)
