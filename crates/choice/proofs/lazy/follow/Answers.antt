-- `choice::lazy::follow` meets its contract: it walks where the bound is the length that the page tells. Assumes nothing.
use mathlib.Core.Path.{◌≡◌, sym, ◌∙◌}
use mathlib.Core.List.{List}
use Prim.Native.Nat.{ℕ, ◌+◌, ◌≤◌, ◌<◌}
use native.Mathlib.Omega.{arith}
use lib.ListN.{length, get_or}
use Rattle.bounds.specs.Bounds.{most_nodes}
use Rattle.network.specs.Network.{Network, source, sink}
use Rattle.network.specs.Onward.{node_length}
use Rattle.packed.specs.Packed.{part, net_in, sources_from, sinks_from}
use Rattle.packed.proofs.Columns.{commodities-is, part_at, part_length}
use Rattle.index.specs.Index.{index_numbers}
use Rattle.paths.specs.Order.{distance_numbers}
use Rattle.paths.specs.Through.{through}
use Rattle.paths.proofs.NodeLengths.{through-is, node-small}
use Rattle.memory.specs.Memory.{page_from, distances_in, bounds_in, Page}
use Rattle.memory.specs.Raised.{told_by, length_by}
use Rattle.choice.proofs.Looks.{followed-walk, followed-none}
use Rattle.choice.proofs.lazy.follow.Goals as goal
use Rattle.choice.proofs.lazy.follow.Goals.{After-told, Start}

abbrev net : Start → Network
net s = net_in s.args.net.now.shape s.args.net.now.numbers.now

abbrev out : Start → List ℕ
out s = part index_numbers index_numbers s.args.indexes.now

abbrev dist : Start → List ℕ
dist s = distances_in (sink (net s) s.args.i) s.args.memory.now

-- the commodity has ends, which are nodes,
among : (s : Start) → s.args.i < s.args.net.now.shape.commodities
among s = omega (arith, s.requires.known.least.among, commodities-is s.requires.packed)

from : (s : Start) → get_or s.args.net.now.numbers.now (sources_from + s.args.i) 0 ≡ source (net s) s.args.i
unfolding net_in
from s = sym (part_at sources_from s.args.net.now.shape.commodities s.args.net.now.numbers.now s.args.i (among s))

to : (s : Start) → get_or s.args.net.now.numbers.now (sinks_from + s.args.i) 0 ≡ sink (net s) s.args.i
unfolding net_in
to s = sym (part_at sinks_from s.args.net.now.shape.commodities s.args.net.now.numbers.now s.args.i (among s))

source-few : (s : Start) → source (net s) s.args.i ≤ most_nodes
source-few s = omega (arith, s.requires.survey.fit.ends.sources s.args.i s.requires.known.least.among, s.requires.survey.few)

sink-few : (s : Start) → sink (net s) s.args.i ≤ most_nodes
sink-few s = omega (arith, s.requires.survey.fit.ends.sinks s.args.i s.requires.known.least.among, s.requires.survey.few)

sink-read : (s : Start) → get_or s.args.net.now.numbers.now (sinks_from + s.args.i) 0 ≤ most_nodes
sink-read s = omega (arith, to s, sink-few s)

-- and the sink a page
page : (s : Start) → Page (net s) s.args.lengths.now s.args.memory.now (sink (net s) s.args.i)
page s = s.requires.known.pages (sink (net s) s.args.i) (s.requires.survey.fit.ends.sinks s.args.i s.requires.known.least.among)

size : (s : Start) → length (dist s) ≡ distance_numbers
size s =
    part_length (page_from (sink (net s) s.args.i)) distance_numbers s.args.memory.now (omega (arith, sink-few s, s.requires.known.places))

-- the length of its source is read by the index, and is small
own : (s : Start) → through (out s) s.args.lengths.now (source (net s) s.args.i) ≡ node_length (net s) s.args.lengths.now (source (net s) s.args.i)
own s =
    through-is (net s) s.args.lengths.now (out s) s.requires.indexed.out.places s.requires.survey.fit.lengths (source (net s) s.args.i)
    (s.requires.survey.fit.ends.sources s.args.i s.requires.known.least.among).1

-- what is told is the length by the page, and the bound is read
tells : (c : After-told) → c.told.result ≡ length_by (net (goal.at.After-told c).Start) c.args.lengths.now (dist (goal.at.After-told c).Start) c.args.i
tells c =
    let told : c.told.result ≡ told_by (through (out (goal.at.After-told c).Start) c.args.lengths.now) (dist (goal.at.After-told c).Start) (source (net (goal.at.After-told c).Start) c.args.i) (sink (net (goal.at.After-told c).Start) c.args.i) =
    rw (← from (goal.at.After-told c).Start, ← to (goal.at.After-told c).Start) c.told.ensures in
    omega (arith, told, own (goal.at.After-told c).Start, (page (goal.at.After-told c).Start).feasible.sink)

bound : (s : Start) → get_or s.args.memory.now (0 + s.args.i) 0 ≡ get_or (bounds_in s.args.net.now.shape s.args.memory.now) s.args.i 0
bound s = sym (part_at 0 s.args.net.now.shape.commodities s.args.memory.now s.args.i (among s))

pub told-requires : goal.told-requires
told-requires c =
    rw (from (goal.at.told-requires c).Start, to (goal.at.told-requires c).Start) (record {
      from = omega (arith, size (goal.at.told-requires c).Start, source-few (goal.at.told-requires c).Start);
      to = omega (arith, size (goal.at.told-requires c).Start, sink-few (goal.at.told-requires c).Start);
      place = omega (arith, source-few (goal.at.told-requires c).Start, c.requires.indexed.out.arcs.numbers);
      small = omega (arith, own (goal.at.told-requires c).Start, node-small (net (goal.at.told-requires c).Start) c.args.lengths.now c.requires.survey.fit.small (source (net (goal.at.told-requires c).Start) c.args.i) (c.requires.survey.fit.ends.sources c.args.i c.requires.known.least.among).1);
    })

pub returns-then-told-memory : goal.returns-then-told-memory
returns-then-told-memory c =
    followed-none _ _ (λ q. c.if-told-memory.true (tells (goal.at.returns-then-told-memory c).After-told ∙ (sym q ∙ sym (bound (goal.at.returns-then-told-memory c).Start))))

pub walk-requires : goal.walk-requires
walk-requires c =
    let p = c.requires in
    let f = p.survey.fit in
    rw (from (goal.at.walk-requires c).Start, to (goal.at.walk-requires c).Start) (record {
      fit = rw (size (goal.at.walk-requires c).Start) f;
      feasible = (page (goal.at.walk-requires c).Start).feasible;
      capped = (page (goal.at.walk-requires c).Start).capped;
      index = p.indexed.out;
      source = f.ends.sources c.args.i p.known.least.among;
      apart = f.ends.apart c.args.i p.known.least.among;
      places = omega (arith, p.room, p.survey.few);
    })

pub returns : goal.returns
returns c =
    followed-walk _ _ _ c.walk.result (page (goal.at.returns c).Start).feasible (sym (bound (goal.at.returns c).Start) ∙ (sym c.if-told-memory.false ∙ tells (goal.at.returns c).After-told)) (rw (← from (goal.at.returns c).Start, ← to (goal.at.returns c).Start) c.walk.ensures)

pub overflow_mul-at : goal.overflow_mul-at
overflow_mul-at c = omega (arith, sink-read (goal.at.overflow_mul-at c).Start)

pub overflow_add-at : goal.overflow_add-at
overflow_add-at c = omega (arith, sink-read (goal.at.overflow_add-at c).Start)

pub overflow_add-dist : goal.overflow_add-dist
overflow_add-dist c = omega (arith, sink-read (goal.at.overflow_add-dist c).Start)

pub offset_bounds-memory-at : goal.offset_bounds-memory-at
offset_bounds-memory-at c = omega (arith, sink-read (goal.at.offset_bounds-memory-at c).Start)

pub slice_bounds-dist-end : goal.slice_bounds-dist-end
slice_bounds-dist-end c = omega (arith, sink-read (goal.at.slice_bounds-dist-end c).Start, c.requires.known.places)
