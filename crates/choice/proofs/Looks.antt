-- What a search for one sink and the raising of all bounds leave of a memory; and what the walk by a page tells then.
-- Assumes nothing.
use mathlib.Core.Path.{◌≡◌, ◌∙◌}
use mathlib.Core.List.{List}
use Prim.Native.Nat.{ℕ}
use native.Mathlib.Omega.{arith}
use lib.ListN.{length, get_or}
use Rattle.std.specs.Prelude.{Option, Some, None}
use Rattle.network.specs.Ends.{Node}
use Rattle.network.specs.Network.{Network, commodities, source, sink}
use Rattle.network.specs.Onward.{node_length}
use Rattle.packed.specs.Packed.{put, net_in}
use Rattle.packed.specs.declared.Shape.{Shape}
use Rattle.packed.proofs.Columns.{commodities-is, put-length}
use Rattle.paths.specs.Distances.{Feasible}
use Rattle.paths.specs.Far.{far}
use Rattle.paths.specs.Graph.{Table}
use Rattle.paths.specs.Order.{distance_numbers, page_numbers, Searched}
use Rattle.paths.specs.Walked.{Walked}
use Rattle.paths.proofs.NodeLengths.{through-is}
use Rattle.memory.specs.Memory.{bounds_in, page_from, distances_in}
use Rattle.memory.specs.Raised.{length_by, Raised, AllRaised}
use Rattle.memory.proofs.Bounds.{below_raised, raised-shared}
use Rattle.memory.proofs.Memories.{page-raised, searched-distances, searched-bounds, searched-pages}
use Rattle.memory.proofs.Raises.{part_same, raised-same}
use Rattle.choice.specs.Calls.{Looking}
use Rattle.choice.specs.Looked.{Looked, Stuck, Followed}

module _ {s : Shape} {xs ix l : List ℕ} {t i : ℕ} {M page new : List ℕ} {r : ℕ} (p : Looking s xs ix l t i M) (size : length page ≡ page_numbers)
    (S : Searched (net_in s xs) l page t) (A : AllRaised s xs ix l t (put (page_from t) page_numbers M page) new r) where
  abbrev net : Network
  net = net_in s xs

  -- The memory between the two.
  abbrev mid : List ℕ
  mid = put (page_from t) page_numbers M page

  node : Node net t
  node = rw p.to (p.survey.fit.ends.sinks i p.known.least.among)

  numbers : length new ≡ length M
  numbers = A.raised.numbers ∙ put-length (page_from t) page_numbers M page (omega (arith, node, p.survey.few, p.known.places)) size

  distances : distances_in t new ≡ distances_in t mid
  distances = part_same mid new A.raised.behind (page_from t) distance_numbers (omega arith)

  bounds : bounds_in s mid ≡ bounds_in s M
  bounds = searched-bounds M page p.survey.few p.known.places node size S s p.packed.few-commodities

  table : Table net l (distances_in t mid) t far
  table = rw (searched-distances M page p.survey.few p.known.places node size S) S.table

  -- Lengths of sources are read by the index.
  raised : Raised (node_length net l) net.sources net.sinks (distances_in t mid) (bounds_in s M) (bounds_in s new) (commodities net)
  raised =
      rw (← bounds, commodities-is p.packed)
      (raised-same
      (λ j b.
      through-is net l ix p.index.places p.survey.fit.lengths (source net j) (p.survey.fit.ends.sources j (omega (arith, commodities-is p.packed))).1)
      A.raised.bounds)

  pub looked : Looked s net l t M new r
  looked =
      let ends = p.survey.fit.ends in
      record {
        known =
            record {
              places = omega (arith, numbers, p.known.places);
              below = below_raised ends p.survey.few p.known.below raised table.distances.feasible table.capped;
              least = rw (commodities-is p.packed) A.least;
              pages = λ u at.
                  page-raised A.raised.behind (searched-pages M page p.survey.few p.known.places node size S p.known.pages u at);
            };
        table = rw distances table;
        shared = λ j b q. rw distances (raised-shared ends p.survey.few p.known.below raised table j b q);
        rise = λ j b. (raised.each j b).first;
      }

-- The walk of commodity i by the table d, where the bound is the length that the table tells, and where it is not.
module _ {net : Network} {l d : List ℕ} (bounds : List ℕ) (i : ℕ) where
  pub followed-walk :
      (path : List ℕ) (r : Option ℕ) → Feasible net l d (sink net i) → get_or bounds i 0 ≡ length_by net l d i → Walked net l d (source net i) (sink net i) path r →
      Followed net l bounds d i path r
  followed-walk path (Some r) F own W = record { feasible = F; arrived = W; own = own }
  followed-walk path None F own W = λ q. W

  pub followed-none : (get_or bounds i 0 ≡ length_by net l d i → ⊥) → Stuck net l bounds d i
  followed-none other q = absurd (other q)
