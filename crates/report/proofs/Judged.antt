-- The verdict on a network that a file holds is that on its arcs and its commodity: 1 to 4 cannot hold, since the reader has kept
-- the counts within their bounds, nor 15, since a file limits no node. Assumes nothing.
use mathlib.Core.Path.{◌≡◌, sym, ◌∙◌}
use mathlib.Core.List.{List}
use Prim.Native.Nat.{ℕ}
use lib.Dec.{lit≤}
use Rattle.network.specs.Network.{Network, arcs, commodities}
use Rattle.network.specs.Resources.{resources}
use Rattle.network.specs.Sound.{Counts, Sound}
use Rattle.network.specs.Verdict.{verdict, size_conditions, item_conditions, verdict_on}
use Rattle.network.specs.Refusal.{Accepted}
use Rattle.network.proofs.Accepted.{items-accepted}
use Rattle.network.proofs.Decided.{quiet-accepted}
use Rattle.network.proofs.First.{first-accepts}
use Rattle.network.proofs.Plain.{plain-resources, not-given}
use Rattle.network.proofs.Sizes.{sizes-quiet}
use Rattle.packed.specs.Packed.{net_in, Packed}
use Rattle.packed.specs.declared.Shape.{Shape}
use Rattle.packed.proofs.Columns.{arcs-is}
use Rattle.dimacs.specs.OneCommodity.{OneCommodity}
use Rattle.report.specs.Listing.{verdict_held}

module _ (net : Network) (o : OneCommodity net) where
  plain : resources net ≡ arcs net
  plain = plain-resources net (not-given net o.of-limits)

  counts : Counts net.nodes (arcs net) (resources net) (commodities net) 4
  counts =
      record {
        of-nodes = o.of-nodes;
        of-arcs = o.of-arcs;
        of-resources = rw plain o.of-arcs.most;
        of-commodities = rw o.of-sources (record { least = lit≤ tt; most = lit≤ tt });
        precision = record { least = lit≤ tt; most = lit≤ tt };
      }

  pub judged : verdict_held net ≡ verdict (item_conditions net)
  unfolding verdict_on
  judged =
      first-accepts (size_conditions net.nodes (arcs net) (resources net) (commodities net) 4) (item_conditions net)
      (quiet-accepted (sizes-quiet net.nodes (arcs net) (resources net) (commodities net) 4 counts))

  -- Accepted: the network is sound.
  pub sound : verdict (item_conditions net) ≡ Accepted → Sound net 4
  sound h = items-accepted net 4 counts h

-- A shape that counts the arcs counts the resources.
pub counted : {s : Shape} {xs : List ℕ} → Packed s xs → OneCommodity (net_in s xs) → s.resources ≡ s.arcs → s.resources ≡ resources (net_in s xs)
counted {s} {xs} p o e = e ∙ sym (plain (net_in s xs) o ∙ arcs-is p)
