-- The conditions of the sizes hold nowhere exactly where the counts are within their bounds.
-- Assumes nothing.
use Prim.Native.Nat.{ℕ}
use borrow.Author.Tests.{ltb-false, le-ltb}
use Rattle.network.specs.Sound.{Counts}
use Rattle.network.specs.Verdict.{size_conditions}
use Rattle.network.proofs.Bounds.{within, not-outside}
use Rattle.network.proofs.Decided.{Quiet}
use Rattle.network.proofs.Each.{none, more}

module _ (n m r k q : ℕ) where
  pub sizes-kept : Quiet (size_conditions n m r k q) → Counts n m r k q
  unfolding size_conditions
  sizes-kept (more a (more b (more c (more d (more e none))))) =
      record {
        of-nodes = within _ _ n a;
        of-arcs = within _ _ m b;
        of-resources = ltb-false _ _ c;
        of-commodities = within _ _ k d;
        precision = within _ _ q e;
      }

  pub sizes-quiet : Counts n m r k q → Quiet (size_conditions n m r k q)
  unfolding size_conditions
  sizes-quiet c =
      more (not-outside c.of-nodes)
      (more (not-outside c.of-arcs)
      (more (le-ltb _ _ c.of-resources) (more (not-outside c.of-commodities) (more (not-outside c.precision) none))))
