-- The page that a search leaves: at its end the labels are the distances, and rearranging the order leaves them.
-- Assumes nothing.
use mathlib.Core.Path.{◌≡◌, ◌∙◌}
use mathlib.Core.List.{List}
use Prim.Native.Nat.{ℕ, ◌≤◌}
use native.Mathlib.Omega.{arith}
use lib.ListN.{get_or}
use lib.Seq.{get_or-take}
use Rattle.bounds.specs.Bounds.{most_nodes}
use Rattle.network.specs.Ends.{Node, Ends}
use Rattle.network.specs.Network.{Network}
use Rattle.network.proofs.Leads.{leads-from, leads-into}
use Rattle.paths.specs.Graph.{Table}
use Rattle.paths.specs.Order.{distance_numbers, Rearranged, Searched}
use Rattle.paths.specs.Searching.{Searching, Any}
use Rattle.paths.proofs.Orders.{ordered-rearranged}
use Rattle.paths.proofs.Searches.{searching-end}

-- Only the entries of the nodes count in a table.
table_same :
    {net : Network} {l d new : List ℕ} {t far : ℕ} → Ends net → Node net t → ((v : ℕ) → v ≤ net.nodes → get_or new v 0 ≡ get_or d v 0) →
    Table net l d t far → Table net l new t far
table_same {net} {t = t} ends sink same T =
    record {
      distances =
          record {
            feasible =
                record {
                  sink = same t sink.1 ∙ T.distances.feasible.sink;
                  arcs = λ u e w h.
                      omega (
                        arith,
                        T.distances.feasible.arcs u e w h,
                        same u (leads-from net u e w h ends).1,
                        same w (leads-into net u e w h ends).1,
                      );
                };
            tight = λ v node apart near.
                let (e, way) = T.distances.tight v node apart (omega (arith, same v node.1)) in (
                  e,
                  record {
                    to = way.to;
                    leads-to = way.leads-to;
                    long = omega (arith, way.long, same v node.1, same way.to (leads-into net v e way.to way.leads-to ends).1);
                  },
                );
          };
      capped = λ v b. omega (arith, same v b, T.capped v b);
      some-path = λ v node. rw (same v node.1) (T.some-path v node);
    }

-- With no node on the list the search is done.
pub searched :
    {net : Network} {l page new listed : List ℕ} {t size : ℕ} → net.nodes ≤ most_nodes → Node net t → Searching net l t Any page listed size → size ≤ 0 →
    Rearranged net.nodes page new → Searched net l new t
searched {new = new} few sink S none R =
    record {
      table =
          table_same S.fit.ends sink
          (λ v b. get_or-take distance_numbers new v 0 (omega arith) ∙ R.distances v (omega arith))
          (searching-end few S none);
      ordered = ordered-rearranged S.ordered R;
    }
