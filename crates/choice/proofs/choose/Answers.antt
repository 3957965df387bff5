-- `choice::choose` meets its contract: the nearest commodity, the walk to its sink, and what the walk uses. Assumes nothing.
use mathlib.Core.Path.{◌≡◌, sym}
use mathlib.Core.List.{List}
use Prim.Native.Nat.{ℕ, ◌+◌, ◌<◌}
use native.Mathlib.Omega.{arith}
use lib.ListN.{get_or}
use Rattle.network.specs.Network.{Network, source, sink}
use Rattle.packed.specs.Packed.{net_in, sources_from}
use Rattle.packed.proofs.Columns.{part_at, commodities-is}
use Rattle.memory.specs.Memory.{bounds_in, least_in}
use Rattle.choice.proofs.Selects.{selects-nothing, selects_walk}
use Rattle.choice.proofs.choose.Goals as goal
use Rattle.choice.proofs.choose.Goals.{After-nearest, Start}

abbrev net : Start → Network
net s = net_in s.args.net.now.shape s.args.net.now.numbers.now

-- the memory and the path behind the search
abbrev memory-at : After-nearest → List ℕ
memory-at c = c.nearest.new.memory

abbrev path-at : After-nearest → List ℕ
path-at c = c.nearest.new.path

-- the nearest is one of the commodities, and has a bound in the memory
among : (c : After-nearest) → least_in (memory-at c) < c.args.net.now.shape.commodities
among c = omega (arith, c.nearest.ensures.memory-of.least.among, commodities-is c.requires.packed)

own : (c : After-nearest) → let i = least_in (memory-at c) in get_or (memory-at c) (0 + i) 0 ≡ get_or (bounds_in c.args.net.now.shape (memory-at c)) i 0
own c = sym (part_at 0 c.args.net.now.shape.commodities (memory-at c) (least_in (memory-at c)) (among c))

-- its source, as it is read
from : (c : After-nearest) → let i = least_in (memory-at c) in get_or c.args.net.now.numbers.now (sources_from + i) 0 ≡ source (net (goal.at.After-nearest c).Start) i
unfolding net_in
from c = sym (part_at sources_from c.args.net.now.shape.commodities c.args.net.now.numbers.now (least_in (memory-at c)) (among c))

pub returns-in_err-arcs : goal.returns-in_err-arcs
returns-in_err-arcs c =
    let N = c.in_err-arcs.ensures in
    rw c.from_residual.ensures (record { chose = selects-nothing c.requires.survey N.memory-of N.closest; memory-of = N.memory-of })

pub visit-used-requires : goal.visit-used-requires
visit-used-requires c =
    let p = c.requires in
    let ends = p.survey.fit.ends in
    let N = c.in_ok-arcs.ensures in
    record {
      packed = p.packed;
      counted = p.counted;
      ends = ends;
      index = p.indexed.out;
      node = rw (from (goal.at.visit-used-requires c).After-nearest) (ends.sources (least_in (memory-at (goal.at.visit-used-requires c).After-nearest)) N.memory-of.least.among);
      to = sink (net (goal.at.visit-used-requires c).Start) (least_in (memory-at (goal.at.visit-used-requires c).After-nearest));
      leads-to = rw (from (goal.at.visit-used-requires c).After-nearest) N.closest.arrived.leads-to;
      few = omega (arith, N.closest.arrived.few, p.survey.few);
      room = omega (arith, p.room, c.nearest.auto.path);
    }

pub returns : goal.returns
returns c =
    let N = c.in_ok-arcs.ensures in
    record {
      chose = selects_walk c.requires.survey N.memory-of (own (goal.at.returns c).After-nearest) (from (goal.at.returns c).After-nearest) N.closest c.visit-used.ensures;
      memory-of = N.memory-of;
    }
