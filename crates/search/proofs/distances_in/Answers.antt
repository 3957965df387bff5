-- `search::distances_in` meets its contract: a node is put on the list only where an entry falls, and each turn takes one off; so it ends, with
-- none.
-- Assumes nothing.
use mathlib.Core.Path.{◌≡◌, refl, sym, ap, ◌∙◌}
use mathlib.Core.List.{List, ◌++◌}
use Prim.Native.Nat.{ℕ, ◌+◌, ◌≤◌}
use native.Mathlib.Omega.{arith}
use lib.ListN.{length, set, drop, replicate}
use Rattle.std.proofs.lemmas.Option.{MatchOption-at_some}
use Rattle.network.specs.Network.{Network}
use Rattle.packed.specs.Packed.{net_in}
use Rattle.paths.specs.Calls.{Seeking}
use Rattle.paths.specs.Far.{far}
use Rattle.paths.specs.Worklist.{Enlisted}
use Rattle.paths.specs.Order.{order_from}
use Rattle.paths.specs.Scan.{Scanning}
use Rattle.paths.specs.Searching.{Searching, Any}
use Rattle.paths.proofs.Exchanging.{rearranged-none}
use Rattle.paths.proofs.Fars.{searching-start}
use Rattle.paths.proofs.Orders.{ordered-arranged, ordered-scanning, ordered-waits}
use Rattle.paths.proofs.Pages.{searched}
use Rattle.paths.proofs.Searches.{searching-out}
use Rattle.search.proofs.distances_in.Goals as goal
use Rattle.search.proofs.distances_in.Goals.{At-loop-size, In-loop-size, in-Some, in-None}

begun :
    {net : Network} {into l new : List ℕ} {t : ℕ} (old : List ℕ) {flags listed : List ℕ} {size r : ℕ} → Seeking net into l t old →
    length new ≡ length old → new ≡ set (replicate (net.nodes + 1) far ++ drop (net.nodes + 1) old) t 0 →
    Enlisted net.nodes flags size t listed r → Searching net l t Any new listed r
begun {net} {l = l} {t = t} old S s q E =
    rw q (searching-start net l old t S.sink.1 S.index.arcs.nodes S.ordered (rw (sym (ap length q) ∙ s) S.fit) E)

-- the page is as large as it was lent, so the order has room
room : (c : At-loop-size) → order_from + (net_in c.args.net.now.shape c.args.net.now.numbers.now).nodes ≤ length c.loop-size.page
room c = let S = c.requires.seeking in omega (arith, c.loop-size.auto.page, S.room, S.index.arcs.nodes)

pub reset-requires : goal.reset-requires
unfolding net_in
reset-requires c = let S = c.requires.seeking in (S.fit.room, S.sink.1)

pub enlist-size-requires : goal.enlist-size-requires
unfolding net_in
enlist-size-requires c = record { worklist = c.requires.empty; node = c.requires.seeking.sink }

pub loop-size-init : goal.loop-size-init
unfolding net_in
loop-size-init c =
    begun c.args.page.now c.requires.seeking c.reset.auto.dist c.reset.ensures (c.enlist-size.ensures.came refl)

scanning : (c : In-loop-size) → let s = c.args in
    Scanning (net_in s.net.now.shape s.net.now.numbers.now).nodes c.loop-size.page c.loop-size.listed
scanning c = let S = c.loop-size.invariant in ordered-scanning S.ordered S.worklist (room (goal.at.In-loop-size c).At-loop-size)

pub scan-requires : goal.scan-requires
unfolding net_in
scan-requires c = scanning (goal.at.scan-requires c).In-loop-size

pub scan-requires-in-None : goal.scan-requires-in-None
unfolding net_in
scan-requires-in-None c = scanning (goal.at.scan-requires-in-None c).In-loop-size

pub unwrap-at-requires : goal.unwrap-at-requires
unfolding net_in
unwrap-at-requires c =
    let S = c.loop-size.invariant in
    ordered-waits S.ordered S.worklist c.scan-in-None.result (omega (arith, c.loop-size-test.true)) c.scan-in-None.ensures

-- the node at the place found, by the first look or, from the first place on, by the second, is on the list
pub take_out-v-requires : goal.take_out-v-requires
unfolding net_in
take_out-v-requires c =
    let S = c.loop-size.invariant in
    record {
      arranged = ordered-arranged S.ordered (room (goal.at.take_out-v-requires c).At-loop-size);
      worklist = S.worklist;
      waits =
          elim c.match-scan.branch [
            | in-Some w ↦ rw w.at-is w.in-Some.ensures.0
            | in-None w ↦ rw w.at-is (MatchOption-at_some _ _ _ w.unwrap-at.ensures w.scan-in-None.ensures).0
          ];
    }

pub relax_into-size-requires : goal.relax_into-size-requires
unfolding net_in
relax_into-size-requires c =
    record {
      searching = searching-out c.args.into.now c.loop-size.invariant c.take_out-v.ensures;
      index = c.requires.seeking.index;
      node = c.take_out-v.ensures.node.1;
    }

pub loop-size-smaller : goal.loop-size-smaller
loop-size-smaller c =
    omega (arith, c.relax_into-size.ensures.weight, c.loop-size-test.true)

pub sort-requires : goal.sort-requires
unfolding net_in
sort-requires c = ordered-arranged c.loop-size.invariant.ordered (room (goal.at.sort-requires c).At-loop-size)

pub returns-then-rounds-ge-MOST_ROUNDS : goal.returns-then-rounds-ge-MOST_ROUNDS
unfolding net_in
returns-then-rounds-ge-MOST_ROUNDS c =
    let S = c.requires.seeking in
    searched S.index.arcs.nodes S.sink c.loop-size.invariant c.loop-size-test.false c.sort.ensures

pub returns-else-rounds-ge-MOST_ROUNDS : goal.returns-else-rounds-ge-MOST_ROUNDS
returns-else-rounds-ge-MOST_ROUNDS c =
    let S = c.requires.seeking in
    searched S.index.arcs.nodes S.sink c.loop-size.invariant c.loop-size-test.false (rearranged-none _ _)
