-- `choice::lazy::look` meets its contract: what the search and the raising leave, one after the other. Assumes nothing.
use mathlib.Core.Path.{◌≡◌, ◌∙◌}
use Prim.Native.Nat.{◌≤◌}
use native.Mathlib.Omega.{arith}
use lib.ListN.{length}
use Rattle.bounds.specs.Bounds.{most_nodes}
use Rattle.network.specs.Ends.{Node}
use Rattle.network.specs.Network.{Network, source}
use Rattle.packed.specs.Packed.{net_in}
use Rattle.packed.proofs.Columns.{commodities-is, part_length, put-length}
use Rattle.paths.specs.Order.{page_numbers}
use Rattle.paths.proofs.NodeLengths.{through-is, node-small}
use Rattle.memory.specs.Memory.{page_from, page_in}
use Rattle.choice.proofs.Looks.{looked}
use Rattle.choice.proofs.lazy.look.Goals as goal
use Rattle.choice.proofs.lazy.look.Goals.{After-distances, Start}

abbrev net : Start → Network
net s = net_in s.args.net.now.shape s.args.net.now.numbers.now

-- the sink is a node, and has a page in the memory
node : (s : Start) → Node (net s) s.args.t
node s = rw s.requires.to (s.requires.survey.fit.ends.sinks s.args.i s.requires.known.least.among)

few : (s : Start) → s.args.t ≤ most_nodes
few s = omega (arith, node s, s.requires.survey.few)

page : (s : Start) → length (page_in s.args.t s.args.memory.now) ≡ page_numbers
page s = part_length (page_from s.args.t) page_numbers s.args.memory.now (omega (arith, few s, s.requires.known.places))

size : (c : After-distances) → length c.distances.new.page ≡ page_numbers
size c = c.distances.auto.page ∙ page (goal.at.After-distances c).Start

pub distances-requires : goal.distances-requires
distances-requires c =
    let p = c.requires in
    let f = p.survey.fit in
    record {
      fit = record { ends = f.ends; lengths = f.lengths; small = f.small; room = omega (arith, f.room, page (goal.at.distances-requires c).Start) };
      sink = node (goal.at.distances-requires c).Start;
      index = p.index;
      room = omega (arith, page (goal.at.distances-requires c).Start);
      ordered = (p.known.pages c.args.t (node (goal.at.distances-requires c).Start)).ordered;
    }

pub raise-requires : goal.raise-requires
raise-requires c =
    let p = c.requires in
    let ends = p.survey.fit.ends in
    let k = commodities-is p.packed in
    record {
      raising = record {
        packed = p.packed;
        node = few (goal.at.raise-requires c).Start;
        sources = λ i b. omega (arith, ends.sources i (omega (arith, k)), p.survey.few);
        sinks = λ i b. omega (arith, ends.sinks i (omega (arith, k)), p.survey.few);
        small = λ i b.
            let v = source (net (goal.at.raise-requires c).Start) i in
            let at = (ends.sources i (omega (arith, k))).1 in
            omega (
              arith,
              through-is (net (goal.at.raise-requires c).Start) c.args.lengths.now c.args.into.now p.index.places p.survey.fit.lengths v at,
              node-small (net (goal.at.raise-requires c).Start) c.args.lengths.now p.survey.fit.small v at,
            );
        numbers = p.index.arcs.numbers;
        places =
            omega (
              arith,
              put-length (page_from c.args.t) page_numbers c.args.memory.now c.distances.new.page
                  (omega (arith, few (goal.at.raise-requires c).Start, p.known.places))
                  (size (goal.at.raise-requires c).After-distances),
              p.known.places,
            );
      };
      some = omega (arith, p.survey.some, k);
    }

pub returns : goal.returns
returns c =
    looked c.requires (size (goal.at.returns c).After-distances) c.distances.ensures c.raise.ensures

pub overflow_mul-at : goal.overflow_mul-at
overflow_mul-at c = omega (arith, few (goal.at.overflow_mul-at c).Start)

pub overflow_add-at : goal.overflow_add-at
overflow_add-at c = omega (arith, few (goal.at.overflow_add-at c).Start)

pub overflow_add-at-2 : goal.overflow_add-at-2
overflow_add-at-2 c = omega (arith, few (goal.at.overflow_add-at-2 c).Start)

pub offset_bounds-memory-at : goal.offset_bounds-memory-at
offset_bounds-memory-at c = omega (arith, few (goal.at.offset_bounds-memory-at c).Start)

pub slice_bounds-distances-end : goal.slice_bounds-distances-end
slice_bounds-distances-end c = omega (arith, few (goal.at.slice_bounds-distances-end c).Start, c.requires.known.places)
