-- The choice rule as a reader wants to hear it: what is chosen is Chosen.
-- Assumes nothing.
use mathlib.Core.Path.{◌≡◌, refl}
use mathlib.Core.Logic.{⊎_elim}
use mathlib.Core.Option.{some}
use mathlib.Core.List.{List, ◌++◌}
use Prim.Native.Nat.{ℕ, ◌≤◌, ◌<◌}
use native.Mathlib.Omega.{arith}
use lib.ListN.{length}
use Rattle.arith.specs.Distinct.{Distinct}
use Rattle.arith.proofs.Order.{le-or-lt}
use Rattle.network.specs.Ends.{Ends}
use Rattle.network.specs.Network.{Network, source, sink}
use Rattle.network.specs.Path.{Path, path_length}
use Rattle.network.specs.Resources.{uses}
use Rattle.network.specs.Visited.{visited}
use Rattle.network.proofs.Cuts.{cut-path, cut-fewer, cut-no-longer}
use Rattle.network.proofs.Loops.{Loop, distinct-or-loop}
use Rattle.network.proofs.Nodes.{distinct-path-few}
use Rattle.method.specs.Choice.{Choice, used_by, choice_of, choice}
use Rattle.method.specs.Chosen.{Chosen}
use Rattle.method.specs.Order.{Before}
use Rattle.method.proofs.Candidates.{Candidate, ahead}
use Rattle.method.proofs.Orders.{Ahead, fewer, as_many}
use Rattle.method.proofs.Shortest.{choice-candidate, choice-earlier, choice-shortest, choice-lowest}

module _ (net : Network) (l : List ℕ) (ends : Ends net) (c : Choice) (h : choice net l ≡ some c) where
  abbrev s : ℕ
  s = source net c.commodity

  abbrev t : ℕ
  t = sink net c.commodity

  listed : Candidate net c
  listed = choice-candidate net l c h

  -- A path that would be listed before the chosen one is longer. It has no more arcs, so it is listed.
  ahead-longer : (p : List ℕ) → Path net s t p → length p ≤ length c.path → Ahead p c.path → path_length l (used_by net c) < path_length l (uses net s p)
  ahead-longer p r few a =
      choice-earlier net l c h (choice_of c.commodity p)
      (record { commodity = listed.commodity; path = r; short = omega (arith, listed.short) })
      (ahead refl a)

  choice-fewest : (p : List ℕ) → Path net s t p → path_length l (uses net s p) ≡ path_length l (used_by net c) → length c.path ≤ length p
  choice-fewest p r q =
      ⊎_elim
      (λ (b : length c.path ≤ length p). b)
      (λ (b : length p < length c.path). absurd (omega (arith, ahead-longer p r (omega arith) (fewer b))))
      (le-or-lt (length c.path) (length p))

  choice-first : (p : List ℕ) → Path net s t p → path_length l (uses net s p) ≡ path_length l (used_by net c) → length p ≡ length c.path → Before p c.path → ⊥
  choice-first p r q e b = omega (arith, ahead-longer p r (omega arith) (as_many e b))

  -- A path without its loop has fewer arcs and is no longer.
  choice-distinct : Distinct (visited net s c.path)
  choice-distinct =
      ⊎_elim
      (λ (d : Distinct (visited net s c.path)). d)
      (λ (k : Loop net s t c.path).
      let few = cut-fewer net s t c.path k in
      absurd (omega (
        arith,
        cut-no-longer net s t c.path k listed.path l,
        ahead-longer (k.front ++ k.back) (cut-path net s t c.path k) (omega arith) (fewer few),
      )))
      (distinct-or-loop net s t c.path listed.path)

  pub chosen : Chosen net l c
  chosen =
      record {
        commodity = listed.commodity;
        path = listed.path;
        shortest = λ i p b r. choice-shortest net l c h ends i p r b;
        lowest = λ i p b r. choice-lowest net l c h ends i p r b;
        fewest = choice-fewest;
        first = choice-first;
        distinct = choice-distinct;
        few = distinct-path-few net ends s t c.path (ends.sources c.commodity listed.commodity) listed.path choice-distinct;
      }
