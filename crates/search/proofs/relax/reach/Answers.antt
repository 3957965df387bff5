-- `search::relax::reach` meets its contract: where the arc shortens its start is on the list, else nothing has changed.
-- Assumes nothing.
use mathlib.Core.Path.{◌≡◌, refl, sym}
use mathlib.Core.Option.{some}
use Prim.Native.Nat.{◌+◌, ◌*◌, ◌<◌}
use native.Mathlib.Omega.{arith}
use lib.ListN.{length, get_or}
use Rattle.bounds.specs.Bounds.{most_nodes}
use Rattle.network.specs.Path.{leads}
use Rattle.network.specs.Onward.{node_length}
use Rattle.packed.specs.Packed.{net_in}
use Rattle.index.specs.Index.{ends_from, arc_at, end_at}
use Rattle.network.proofs.Leads.{leads-from}
use Rattle.paths.specs.Distances.{via}
use Rattle.paths.specs.Relax.{Relaxing, Relaxed}
use Rattle.paths.proofs.Relaxing.{takes-not, taken-relaxed, relaxed-end}
use Rattle.paths.proofs.Rooms.{relaxing}
use Rattle.paths.proofs.Spreading.{searching-still, searching-met}
use Rattle.search.proofs.relax.reach.Goals as goal
use Rattle.search.proofs.relax.reach.Goals.{After-relax-nearer, Start}

-- the place is in the index, and its arc leads to v
place : (s : Start) → ends_from + s.args.p < length s.args.into.now
place s = let P = s.requires in omega (arith, P.below, P.index.arcs.within s.args.v P.node, P.index.arcs.numbers)

arc :
    (s : Start) →
    leads (net_in s.args.net.now.shape s.args.net.now.numbers.now) (end_at s.args.into.now s.args.p) (arc_at s.args.into.now s.args.p) ≡
    some s.args.v
arc s =
    let P = s.requires in
    P.index.arcs.sound s.args.v s.args.p _ _ P.node (record { from = P.from; below = P.below; arc = refl; end = refl })

pub overflow_add-e : goal.overflow_add-e
overflow_add-e c = omega (arith, c.well_formed, place (goal.at.overflow_add-e c).Start)

pub offset_bounds-into-p : goal.offset_bounds-into-p
offset_bounds-into-p c = omega (arith, c.well_formed, place (goal.at.offset_bounds-into-p c).Start)

pub bounds-into-p : goal.bounds-into-p
bounds-into-p c = omega (arith, place (goal.at.bounds-into-p c).Start)

pub overflow_add-u : goal.overflow_add-u
overflow_add-u c = omega (arith, c.well_formed, place (goal.at.overflow_add-u c).Start)

pub offset_bounds-into-p-2 : goal.offset_bounds-into-p-2
offset_bounds-into-p-2 c = omega (arith, c.well_formed, place (goal.at.offset_bounds-into-p-2 c).Start)

pub bounds-into-p-2 : goal.bounds-into-p-2
bounds-into-p-2 c = place (goal.at.bounds-into-p-2 c).Start

-- the arc can be crossed, and the way over it is as the definition says
crossed : (s : Start) → let n = net_in s.args.net.now.shape s.args.net.now.numbers.now in let i = s.args.into.now in
    Relaxing s.args.lengths.now s.args.dist.now (node_length n s.args.lengths.now s.args.v) (end_at i s.args.p) (arc_at i s.args.p) s.args.v
crossed s = relaxing _ _ _ s.requires.searching.fit s.requires.searching.labels.capped (arc s)

way : (s : Start) → let n = net_in s.args.net.now.shape s.args.net.now.numbers.now in let i = s.args.into.now in let l = s.args.lengths.now in
    most_nodes * get_or l (arc_at i s.args.p) 0 + s.args.onward ≡ via l s.args.dist.now (node_length n l s.args.v) (arc_at i s.args.p) s.args.v
way s = omega (arith, s.requires.own)

relaxes : (c : After-relax-nearer) → let n = net_in c.args.net.now.shape c.args.net.now.numbers.now in let i = c.args.into.now in
    Relaxed c.args.lengths.now (node_length n c.args.lengths.now c.args.v) (end_at i c.args.p) (arc_at i c.args.p) c.args.v c.args.dist.now c.relax-nearer.result
    c.relax-nearer.new.dist
relaxes c = taken-relaxed (way (goal.at.After-relax-nearer c).Start) c.relax-nearer.ensures

pub offset_bounds-lengths-e : goal.offset_bounds-lengths-e
offset_bounds-lengths-e c = omega (arith, c.well_formed, (crossed (goal.at.offset_bounds-lengths-e c).Start).crossing.arc)

pub bounds-lengths-e : goal.bounds-lengths-e
bounds-lengths-e c = (crossed (goal.at.bounds-lengths-e c).Start).crossing.arc

pub overflow_mul-way : goal.overflow_mul-way
overflow_mul-way c = omega (arith, way (goal.at.overflow_mul-way c).Start, (crossed (goal.at.overflow_mul-way c).Start).crossing.fits)

pub overflow_add-way : goal.overflow_add-way
overflow_add-way c = omega (arith, way (goal.at.overflow_add-way c).Start, (crossed (goal.at.overflow_add-way c).Start).crossing.fits)

pub passed_by-requires : goal.passed_by-requires
passed_by-requires c = (crossed (goal.at.passed_by-requires c).Start).start

pub returns-then-passed_by : goal.returns-then-passed_by
returns-then-passed_by c =
    let R = taken-relaxed (way (goal.at.returns-then-passed_by c).Start) (takes-not (c.passed_by.ensures c.if-passed_by.true)) in
    record {
      spread = searching-still c.requires.searching refl refl refl (arc (goal.at.returns-then-passed_by c).Start) (sym R.told) R.entries;
      head = refl;
    }

pub relax-nearer-requires : goal.relax-nearer-requires
relax-nearer-requires c = (crossed (goal.at.relax-nearer-requires c).Start).start

pub enlist-requires : goal.enlist-requires
unfolding net_in
enlist-requires c =
    record {
      worklist = c.requires.searching.worklist;
      node = leads-from _ _ _ _ (arc (goal.at.enlist-requires c).Start) c.requires.searching.fit.ends;
    }

pub returns : goal.returns
unfolding net_in
returns c =
    record {
      spread =
          searching-met c.requires.searching refl refl refl (arc (goal.at.returns c).Start) _ c.requires.index.arcs.nodes (relaxes (goal.at.returns c).After-relax-nearer).told (relaxes (goal.at.returns c).After-relax-nearer).entries c.enlist.ensures;
      head = rw (relaxes (goal.at.returns c).After-relax-nearer).entries (relaxed-end _ _ _ _ _ _);
    }
