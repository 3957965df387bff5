-- Every path has a shortcut: a path with the same ends that visits no node twice, of fewer arcs than there are nodes, and no longer.
-- Assumes nothing.
use mathlib.Core.Logic.{⊎_elim}
use mathlib.Core.List.{List, ◌++◌}
use Prim.Native.Nat.{ℕ, zero, suc, ◌≤◌, ◌<◌}
use native.Mathlib.Nat.{le_refl}
use native.Mathlib.Omega.{arith}
use lib.ListN.{length}
use Rattle.arith.specs.Distinct.{Distinct}
use Rattle.network.specs.Ends.{Node, Ends}
use Rattle.network.specs.Network.{Network}
use Rattle.network.specs.Onward.{onward}
use Rattle.network.specs.Path.{Path, path_length}
use Rattle.network.specs.Resources.{uses}
use Rattle.network.specs.Visited.{visited}
use Rattle.network.proofs.Cuts.{cut-path, cut-fewer, cut-onward}
use Rattle.network.proofs.Loops.{Loop, distinct-or-loop}
use Rattle.network.proofs.Nodes.{distinct-path-few}
use Rattle.network.proofs.Uses.{uses-length}

-- One path serves for all lengths.
pub record Shortcut (net : Network) (v t : ℕ) (p : List ℕ) : Type 0 where
  pub path : List ℕ
  pub leads : Path net v t path
  pub distinct : Distinct (visited net v path)
  pub no_longer : (l : List ℕ) → onward net l v path ≤ onward net l v p

module _ (net : Network) (v t : ℕ) where
  itself : (p : List ℕ) → Path net v t p → Distinct (visited net v p) → Shortcut net v t p
  itself p h d =
      record { path = p; leads = h; distinct = d; no_longer = λ l. le_refl (onward net l v p) }

  after-cut : (p : List ℕ) (r : Loop net v t p) → Shortcut net v t (r.front ++ r.back) → Shortcut net v t p
  after-cut p r s =
      record {
        path = s.path;
        leads = s.leads;
        distinct = s.distinct;
        no_longer = λ l. omega (arith, s.no_longer l, cut-onward net v t p r l);
      }

  -- a path of at most n arcs, by cutting one loop after another
  within : (n : ℕ) (p : List ℕ) → length p ≤ n → Path net v t p → Shortcut net v t p
  within zero p b h =
      ⊎_elim (itself p h) (λ (r : Loop net v t p). absurd (omega (arith, cut-fewer net v t p r))) (distinct-or-loop net v t p h)
  within (suc n) p b h =
      ⊎_elim
      (itself p h)
      (λ (r : Loop net v t p). after-cut p r (within n (r.front ++ r.back) (omega (arith, cut-fewer net v t p r)) (cut-path net v t p r)))
      (distinct-or-loop net v t p h)

  pub shortcut : (p : List ℕ) → Path net v t p → Shortcut net v t p
  shortcut p h = within (length p) p (le_refl (length p)) h

  pub shortcut-length : (p : List ℕ) → Path net v t p → (s : Shortcut net v t p) (l : List ℕ) → path_length l (uses net v s.path) ≤ path_length l (uses net v p)
  shortcut-length p h s l = omega (arith, s.no_longer l, uses-length net l v t p h, uses-length net l v t s.path s.leads)

  pub shortcut-few : Ends net → Node net v → (p : List ℕ) (s : Shortcut net v t p) → length s.path < net.nodes
  shortcut-few ends n p s = distinct-path-few net ends v t s.path n s.leads s.distinct
