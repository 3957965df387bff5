-- `search::relax::relax_into` meets its contract: the arcs at the places of v before the present one are relaxed.
-- Assumes nothing.
use mathlib.Core.Path.{◌≡◌, ◌∙◌}
use native.Mathlib.Omega.{arith}
use Rattle.network.specs.Onward.{node_length}
use Rattle.packed.specs.Packed.{net_in}
use Rattle.paths.proofs.NodeLengths.{through-is}
use Rattle.paths.proofs.Turning.{spread-all}
use Rattle.search.proofs.relax.relax_into.Goals as goal
use Rattle.search.proofs.relax.relax_into.Goals.{After-through-x}

-- the length of v is read by the index
own : (c : After-through-x) → c.through-x.result ≡ node_length (net_in c.args.net.now.shape c.args.net.now.numbers.now) c.args.lengths.now c.args.v
own c =
    c.through-x.ensures ∙
    through-is (net_in c.args.net.now.shape c.args.net.now.numbers.now) c.args.lengths.now c.args.into.now c.requires.index.places c.requires.searching.fit.lengths c.args.v c.requires.node

pub reach-count-requires : goal.reach-count-requires
reach-count-requires c =
    let I = c.loop-p.invariant in
    record {
      searching = I.spread.searching;
      index = c.requires.index;
      node = c.requires.node;
      own = omega (arith, own (goal.at.reach-count-requires c).After-through-x, I.head);
      from = c.loop-p.auto.p;
      below = c.loop-p-test.true;
    }

pub returns : goal.returns
returns c =
    spread-all c.loop-p.invariant.spread c.requires.index c.requires.node c.loop-p-test.false
