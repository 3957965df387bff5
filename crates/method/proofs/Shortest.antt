-- What is chosen, by any lengths: a path of a commodity, none is shorter, and those of lower commodities are longer.
-- Assumes nothing.
use mathlib.Core.Path.{◌≡◌}
use mathlib.Core.Option.{some}
use mathlib.Core.List.{List}
use Prim.Native.Nat.{ℕ, ◌≤◌, ◌<◌}
use native.Mathlib.Omega.{arith}
use Rattle.arith.specs.Member.{Member}
use Rattle.network.specs.Ends.{Ends}
use Rattle.network.specs.Network.{Network, commodities, source, sink}
use Rattle.network.specs.Path.{Path, path_length}
use Rattle.network.specs.Resources.{uses}
use Rattle.network.proofs.Shortcuts.{Shortcut, shortcut, shortcut-few, shortcut-length}
use Rattle.method.specs.Choice.{Choice, used_by, choice_of, candidates, choice}
use Rattle.method.proofs.Candidates.{Earlier, lower, earlier-not-later, Candidate, member-candidate, candidate-member, candidates-sorted}
use Rattle.method.proofs.Least.{First, first_member, first-le, first-lt, least_first}

-- A shortcut is among the candidates.
pub shortcut-member :
    (net : Network) → Ends net → (i : ℕ) (p : List ℕ) → i < commodities net → (k : Shortcut net (source net i) (sink net i) p) →
    Member (choice_of i k.path) (candidates net)
shortcut-member net ends i p b k =
    let few = shortcut-few net (source net i) (sink net i) ends (ends.sources i b) p k in
    candidate-member net (choice_of i k.path) (record { commodity = b; path = k.leads; short = omega arith })

module _ (net : Network) (l : List ℕ) (c : Choice) (h : choice net l ≡ some c) where
  is-first : First (λ (d : Choice). path_length l (used_by net d)) (candidates net) c
  unfolding choice
  is-first = least_first (λ d. path_length l (used_by net d)) (candidates net) c h

  pub choice-candidate : Candidate net c
  choice-candidate = member-candidate net c (first_member is-first)

  -- An earlier candidate is longer.
  pub choice-earlier : (d : Choice) → Candidate net d → Earlier d c → path_length l (used_by net c) < path_length l (used_by net d)
  choice-earlier d k e = first-lt earlier-not-later (candidates-sorted net) is-first d (candidate-member net d k) e

  module _ (ends : Ends net) (i : ℕ) (p : List ℕ) (r : Path net (source net i) (sink net i) p) where
    pub choice-shortest : i < commodities net → path_length l (used_by net c) ≤ path_length l (uses net (source net i) p)
    choice-shortest b =
        let k = shortcut net (source net i) (sink net i) p r in
        omega (arith, shortcut-length net (source net i) (sink net i) p r k l, first-le is-first (choice_of i k.path) (shortcut-member net ends i p b k))

    pub choice-lowest : i < c.commodity → path_length l (used_by net c) < path_length l (uses net (source net i) p)
    choice-lowest b =
        let k = shortcut net (source net i) (sink net i) p r in
        let below : i < commodities net = omega (arith, choice-candidate.commodity) in
        let m = shortcut-member net ends i p below k in
        omega (arith, shortcut-length net (source net i) (sink net i) p r k l, choice-earlier (choice_of i k.path) (member-candidate net (choice_of i k.path) m) (lower b))
