-- Being Chosen determines the choice, so whatever has these properties is what the rule chooses.
-- Assumes nothing.
use mathlib.Core.Path.{◌≡◌, sym, ap₂, subst}
use mathlib.Core.Option.{some}
use mathlib.Core.List.{List}
use Prim.Native.Nat.{ℕ, ◌≤◌, ◌<◌}
use native.Mathlib.Nat.{le_antisymm}
use native.Mathlib.Omega.{arith}
use lib.ListN.{length}
use Rattle.arith.proofs.Order.{Compared, below, equal, above, compare}
use Rattle.network.specs.Ends.{Ends}
use Rattle.network.specs.Network.{Network, source, sink}
use Rattle.network.specs.Path.{Path, path_length}
use Rattle.network.specs.Resources.{uses}
use Rattle.method.specs.Choice.{Choice, used_by, choice_of, choice}
use Rattle.method.specs.Chosen.{Chosen}
use Rattle.method.specs.Order.{Before}
use Rattle.method.proofs.Choosing.{chosen}
use Rattle.method.proofs.Joining.{joined-choice}
use Rattle.method.proofs.Orders.{Ordered, earlier, same, later, ordered}

module _ (net : Network) (l : List ℕ) where
  module _ (c d : Choice) (x : Chosen net l c) (y : Chosen net l d) where
    not_lower : c.commodity < d.commodity → ⊥
    not_lower b = omega (arith, y.lowest c.commodity c.path b x.path, x.shortest d.commodity d.path y.commodity y.path)

    -- Neither is shorter;
    as_short : path_length l (used_by net c) ≡ path_length l (used_by net d)
    as_short =
        le_antisymm
        (x.shortest d.commodity d.path y.commodity y.path)
        (y.shortest c.commodity c.path x.commodity x.path)

    module _ (q : c.commodity ≡ d.commodity) where
      there : Path net (source net d.commodity) (sink net d.commodity) c.path
      there = subst (λ (i : ℕ). Path net (source net i) (sink net i) c.path) q x.path

      as-short-there : path_length l (uses net (source net d.commodity) c.path) ≡ path_length l (used_by net d)
      as-short-there = subst (λ (i : ℕ). path_length l (uses net (source net i) c.path) ≡ path_length l (used_by net d)) q as_short

      -- of one commodity neither has more arcs,
      no_more : length d.path ≤ length c.path
      no_more = y.fewest c.path there as-short-there

      -- so neither is before the other.
      not-before : length c.path ≡ length d.path → Before c.path d.path → ⊥
      not-before e b = y.first c.path there as-short-there e b

  pub chosen-unique : (c d : Choice) → Chosen net l c → Chosen net l d → c ≡ d
  chosen-unique c d x y = by-commodity (compare c.commodity d.commodity)
    where
      as_many : c.commodity ≡ d.commodity → length c.path ≡ length d.path
      as_many q = le_antisymm (no_more d c y x (sym q)) (no_more c d x y q)

      by-path : c.commodity ≡ d.commodity → Ordered c.path d.path → c ≡ d
      by-path q (earlier b) = absurd (not-before c d x y q (as_many q) b)
      by-path q (same e) = ap₂ choice_of q e
      by-path q (later b) = absurd (not-before d c y x (sym q) (sym (as_many q)) b)

      by-commodity : Compared c.commodity d.commodity → c ≡ d
      by-commodity (below b) = absurd (not_lower c d x y b)
      by-commodity (equal q) = by-path q (ordered c.path d.path)
      by-commodity (above b) = absurd (not_lower d c y x b)

  pub chosen-choice : Ends net → (c : Choice) → Chosen net l c → choice net l ≡ some c
  chosen-choice ends c x =
      let s = joined-choice net ends l c.commodity x.commodity (c.path, x.path) in
      rw (chosen-unique c s.0 x (chosen net l ends s.0 s.1)) s.1
