-- What fits by what a search asks: an arc that leads somewhere has a length, its ends have places in the table, and the way over it is a number of
-- 64 bits; and a commodity has a sink.
-- Assumes nothing.
use mathlib.Core.Path.{◌≡◌}
use mathlib.Core.List.{List}
use mathlib.Core.Logic.{⊎_elim}
use mathlib.Core.Option.{some}
use Prim.Native.Nat.{ℕ, ◌≤◌, ◌<◌}
use native.Mathlib.Omega.{arith}
use lib.ListN.{length, get_or, get_or-eq_default}
use Rattle.arith.proofs.Order.{le-or-lt}
use Rattle.network.specs.Network.{Network, commodities}
use Rattle.network.specs.Path.{leads}
use Rattle.network.specs.Resources.{resources}
use Rattle.network.specs.Onward.{node_length}
use Rattle.paths.specs.Far.{far}
use Rattle.paths.specs.Graph.{Fit, Capped}
use Rattle.paths.specs.Relax.{Relaxing}
use Rattle.network.proofs.Leads.{leads-arc, leads-from, leads-into}
use Rattle.network.proofs.Resources.{arcs-le}
use Rattle.paths.proofs.NodeLengths.{node-small}

pub relaxing :
    {net : Network} {l d : List ℕ} (u e w : ℕ) → Fit net l (length d) → Capped net d far → leads net u e ≡ some w → Relaxing l d (node_length net l w) u e w
relaxing {net} {l} u e w f c h =
    let into = leads-into net u e w h f.ends in
    let arc : e < resources net = omega (arith, leads-arc net u e w h, arcs-le net) in
    record {
      crossing =
          record {
            arc = omega (arith, f.lengths);
            end = omega (arith, f.room);
            fits = omega (arith, f.small e arc, node-small net l f.small w into.1, c w into.1);
          };
      start = omega (arith, leads-from net u e w h f.ends, f.room);
    }

-- What is at least 1 is read before the end of the list.
listed : (xs : List ℕ) (i : ℕ) → 1 ≤ get_or xs i 0 → i < length xs
listed xs i h =
    ⊎_elim
    (λ (b : length xs ≤ i). absurd (omega (arith, get_or-eq_default xs 0 b)))
    (λ (b : i < length xs). b)
    (le-or-lt (length xs) i)

-- A commodity has a sink.
pub sink-listed : {net : Network} {l : List ℕ} {size : ℕ} → Fit net l size → (i : ℕ) → i < commodities net → i < length net.sinks
sink-listed {net} f i b = listed net.sinks i (f.ends.sinks i b).0
