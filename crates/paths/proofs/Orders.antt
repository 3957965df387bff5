-- The order of the nodes on a page: what keeps it, and that a node on the list has a place in it.
-- Assumes nothing.
use mathlib.Core.Path.{◌≡◌, refl, ◌∙◌}
use mathlib.Core.List.{List}
use Rattle.std.specs.Prelude.{Option, Some, None, IsSome}
use Prim.Native.Nat.{ℕ, ◌+◌, ◌≤◌, ◌<◌}
use native.Mathlib.Omega.{arith}
use lib.ListN.{length, get_or, set}
use lib.Seq.{get_or-set_other}
use Rattle.bounds.specs.Bounds.{most_nodes}
use Rattle.network.specs.Network.{Network}
use Rattle.paths.specs.Worklist.{Worklist}
use Rattle.paths.specs.Order.{order_from, node_at, Ordered, Arranged, Rearranged}
use Rattle.paths.specs.Scan.{Scanning, Scanned}
use Rattle.paths.proofs.Worklists.{worklist-some}

module _ {net : Network} {old : List ℕ} (O : Ordered net old) where
  -- The same nodes, at whatever places.
  pub ordered-rearranged : {page : List ℕ} → Rearranged net.nodes old page → Ordered net page
  ordered-rearranged R =
      record {
        node = λ p b. let (q, c, e) = R.had p b in rw e (O.node q c);
        found = λ v node. let (p, b, e) = O.found v node in let (q, c, f) = R.has p b in (q, c, f ∙ e);
      }

  -- The same node at each place.
  pub ordered_same : {page : List ℕ} → ((p : ℕ) → node_at page p ≡ node_at old p) → Ordered net page
  ordered_same same =
      record {
        node = λ p b. rw (same p) (O.node p b);
        found = λ v node. let (p, b, e) = O.found v node in (p, b, same p ∙ e);
      }

  -- A distance is stored, in front of it.
  pub ordered-set : net.nodes ≤ most_nodes → (v x : ℕ) → v ≤ net.nodes → Ordered net (set old v x)
  ordered-set few v x b = ordered_same (λ p. get_or-set_other old v (order_from + p) x 0 (λ q. omega arith))

  -- What the functions that read it ask.
  pub ordered-arranged : order_from + net.nodes ≤ length old → Arranged net.nodes old
  ordered-arranged room = record { room = room; nodes = O.node }

  module _ {listed : List ℕ} {size : ℕ} (L : Worklist net.nodes listed size) where
    pub ordered-scanning : order_from + net.nodes ≤ length old → Scanning net.nodes old listed
    ordered-scanning room = record { arranged = ordered-arranged room; room = L.room }

    -- A node on the list has a place, so that a search from the first place on finds one.
    pub ordered-waits : (r : Option ℕ) → 0 < size → Scanned net.nodes old listed 0 r → IsSome r
    ordered-waits (Some p) some S = refl
    ordered-waits None some S =
        let (v, node, flag) = worklist-some L some in
        let (p, b, e) = O.found v node in
        let on : 1 ≤ get_or listed (node_at old p) 0 = rw e flag in
        absurd (omega (arith, on, S p b (omega arith)))
