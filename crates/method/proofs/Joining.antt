-- Something is chosen exactly where some commodity is joined, by whatever lengths.
-- Assumes nothing.
use mathlib.Core.Path.{◌≡◌, sym, ap, ◌∙◌}
use mathlib.Core.Option.{none, some, none-ne-some}
use mathlib.Core.List.{List}
use Prim.Native.Nat.{ℕ, ◌<◌}
use Rattle.network.specs.Ends.{Ends}
use Rattle.network.specs.Network.{Network, commodities, source, sink}
use Rattle.network.specs.Path.{Joined, path_length}
use Rattle.network.proofs.Shortcuts.{shortcut}
use Rattle.method.specs.Choice.{Choice, used_by, choice_of, candidates, least, choice}
use Rattle.method.proofs.Least.{least-none, least-some}
use Rattle.method.proofs.Shortest.{shortcut-member}

module _ (net : Network) where
  -- That nothing is chosen does not depend on the lengths.
  pub none-by-any : (l m : List ℕ) → choice net l ≡ none → choice net m ≡ none
  unfolding choice least
  none-by-any l m h = ap (least (λ (c : Choice). path_length m (used_by net c))) (least-none (λ c. path_length l (used_by net c)) (candidates net) h)

  module _ (ends : Ends net) (l : List ℕ) (i : ℕ) (b : i < commodities net) (j : Joined net i) where
    pub joined-choice : (c : Choice) × (choice net l ≡ some c)
    unfolding choice
    joined-choice =
        let k = shortcut net (source net i) (sink net i) j.0 j.1 in
        least-some (λ c. path_length l (used_by net c)) (candidates net) (choice_of i k.path) (shortcut-member net ends i j.0 b k)

    pub choice-none : choice net l ≡ none → ⊥
    choice-none h = let s = joined-choice in none-ne-some s.0 (sym h ∙ s.1)
