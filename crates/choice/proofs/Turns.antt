-- One turn of the search among the commodities: when it is the last, and what falls when it is not.
-- Assumes nothing.
use mathlib.Core.Path.{◌≡◌, ap}
use mathlib.Core.Logic.{◌⊎◌, inl, inr, ⊎_elim}
use mathlib.Core.List.{List}
use Prim.Native.Nat.{ℕ, ◌≤◌, ◌<◌}
use native.Mathlib.Omega.{arith}
use lib.ListN.{get_or, set}
use Rattle.std.specs.Prelude.{Option, Some, None, IsSome, MatchOption}
use Rattle.arith.proofs.Order.{le-or-lt}
use Rattle.bounds.specs.Bounds.{most_commodities}
use Rattle.network.specs.Network.{Network, commodities, source, sink}
use Rattle.packed.specs.declared.Shape.{Shape}
use Rattle.paths.specs.Far.{far_length, far}
use Rattle.paths.specs.Graph.{Table}
use Rattle.paths.proofs.Descent.{distance-path}
use Rattle.paths.proofs.NodeLengths.{node-small}
use Rattle.memory.specs.Memory.{least_at, bounds_in, distances_in, Known}
use Rattle.memory.specs.Raised.{length_by}
use Rattle.memory.proofs.Memories.{noted-bounds, noted-distances, noted-least, known-noted}
use Rattle.choice.specs.Closest.{Closest, Nearest}
use Rattle.choice.specs.Looked.{Looked, Stuck, Followed}
use Rattle.choice.specs.Search.{Survey}
use Rattle.choice.proofs.Slack.{slack, slack-falls}

module _ {s : Shape} {net : Network} {l old new : List ℕ} {i j : ℕ} (lent : Survey net l) (K : Known s net l old i) (L : Looked s net l (sink net i) old new j) where
  -- Where the walk is stuck, and the sink was just searched, the bound is far: else it would have arrived.
  turn_far : Stuck net l (bounds_in s new) (distances_in (sink net j) new) j → sink net j ≡ sink net i → far_length ≤ get_or (bounds_in s new) j 0
  turn_far stuck q = ⊎_elim (λ (b : far_length ≤ get_or (bounds_in s new) j 0). b) (λ (b : get_or (bounds_in s new) j 0 < far_length). absurd (arrives b)) (le-or-lt far_length _)
    where
      arrives : get_or (bounds_in s new) j 0 < far_length → ⊥
      arrives near =
          let own : get_or (bounds_in s new) j 0 ≡ length_by net l (distances_in (sink net j) new) j = rw q (L.shared j L.known.least.among q) in
          let T : Table net l (distances_in (sink net j) new) (sink net j) far = rw q L.table in
          let w = distance-path lent.fit.ends T.distances (source net j) (lent.fit.ends.sources j L.known.least.among) (omega (arith, own, near)) in
          stuck own w.0 w.1

  -- So the last turn has the nearest: the walk has arrived, or the sink was just searched.
  pub turn_last :
      (path : List ℕ) (r : Option ℕ) → Followed net l (bounds_in s new) (distances_in (sink net j) new) j path r → IsSome r ⊎ (sink net j ≡ sink net i) →
      MatchOption r (far_length ≤ get_or (bounds_in s new) j 0) (Closest net l (bounds_in s new) (distances_in (sink net j) new) j path)
  turn_last path (Some x) C end = C
  turn_last path None stuck (inl e) = cc
  turn_last path None stuck (inr q) = turn_far stuck q

  -- Else there is less room below the cap than before.
  pub turn-falls : (sink net j ≡ sink net i → ⊥) → slack (commodities net) (bounds_in s new) < slack (commodities net) (bounds_in s old)
  turn-falls apart =
      slack-falls K.least L.rise L.known.least (λ e. apart (ap (sink net) e))
      (λ x b. omega (arith, L.known.below.capped x b, node-small net l lent.fit.small (source net x) (lent.fit.ends.sources x b).1))

  -- Commodity j is noted.
  pub turn-noted :
      (path : List ℕ) (r : Option ℕ) → Followed net l (bounds_in s new) (distances_in (sink net j) new) j path r → IsSome r ⊎ (sink net j ≡ sink net i) →
      s.commodities ≤ most_commodities → Nearest s net l (set new least_at j) path r
  turn-noted path r F end few =
      let places = L.known.places in
      record {
        memory-of = known-noted s new j few places L.known;
        closest = rw (noted-least s new j few places, noted-bounds s new j few, noted-distances s new j few (sink net j)) (turn_last path r F end);
      }
