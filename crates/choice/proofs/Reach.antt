-- Where some path leads to t, one shorter than the cap does, where the cap is past twice as many of the greatest lengths as there are nodes.
-- Assumes nothing.
use mathlib.Core.Path.{refl}
use mathlib.Core.Bool.{Bool, true, false, cond}
use mathlib.Core.List.{List, [], ◌∷◌, ◌++◌}
use Prim.Native.Nat.{ℕ, suc, ◌+◌, ◌*◌, ◌^◌, ◌≤◌, ◌<◌}
use native.Mathlib.Nat.{mul-le-mul_right, le_refl}
use native.Mathlib.Omega.{arith}
use lib.ListN.{length, get_or, length-append}
use Rattle.arith.specs.Lists.{flat}
use Rattle.arith.specs.Member.{Member, first, later}
use Rattle.network.specs.Ends.{Node, Ends}
use Rattle.network.specs.Network.{Network, limited}
use Rattle.network.specs.Path.{Path, path_length}
use Rattle.network.specs.Resources.{place, used_at, uses}
use Rattle.network.specs.Visited.{visited}
use Rattle.network.proofs.Nodes.{visited-length}
use Rattle.network.proofs.Shortcuts.{shortcut, shortcut-few}
use Rattle.network.proofs.Uses.{uses-below}
use Rattle.paths.specs.Far.{Bounded}

-- Resources of a length of at most x each are together at most so many times x long.
path_length-le : (l : List ℕ) (x : ℕ) (p : List ℕ) → ((e : ℕ) → Member e p → get_or l e 0 ≤ x) → path_length l p ≤ length p * x
unfolding path_length
path_length-le l x [] h = omega arith
path_length-le l x (e ∷ p) h = omega (arith, h e (first refl), path_length-le l x p (λ j m. h j (later m)))

-- A path uses at most its nodes besides its arcs.
used_at-few : (net : Network) (vs : List ℕ) → length (flat (used_at net) vs) ≤ length vs
unfolding flat used_at
used_at-few net [] = le_refl 0
used_at-few net (v ∷ vs) = by-test (limited net v) (used_at-few net vs)
  where
    by-test : (b : Bool) → length (flat (used_at net) vs) ≤ length vs → length (cond b (place net v ∷ []) [] ++ flat (used_at net) vs) ≤ suc (length vs)
    by-test true h = omega arith
    by-test false h = omega arith

uses-few : (net : Network) (v t : ℕ) (p : List ℕ) → Path net v t p → length (uses net v p) ≤ length p + suc (length p)
unfolding uses
uses-few net v t p h =
    omega (
      arith,
      length-append p (flat (used_at net) (visited net v p)),
      used_at-few net (visited net v p),
      visited-length net v t p h,
    )

-- The shortcut of a path has fewer arcs than there are nodes. Lengths are below the mark of document 01, "One choice of route".
pub near-path :
    {net : Network} (l : List ℕ) {far : ℕ} → Ends net → Bounded net l → 2 * net.nodes * 2 ^ 40 ≤ far →
    (v t : ℕ) → Node net v → (p : List ℕ) → Path net v t p → (q : List ℕ) × Path net v t q × (path_length l (uses net v q) < far)
near-path {net} l ends small cap v t node p h =
    let s = shortcut net v t p h in
    let few : suc (length (uses net v s.path)) ≤ 2 * net.nodes =
    omega (arith, uses-few net v t s.path s.leads, shortcut-few net v t ends node p s) in (
      s.path,
      s.leads,
      omega (
        arith,
        path_length-le l (2 ^ 40) (uses net v s.path) (λ r m. omega (arith, small r (uses-below net ends v t s.path node s.leads r m))),
        mul-le-mul_right (2 ^ 40) few,
      ),
    )
