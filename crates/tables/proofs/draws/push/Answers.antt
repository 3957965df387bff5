-- `tables::draws::push` meets its contract: the flow is drawn over the arcs passed, and no amount has grown by more
-- than 64 draws, so the sums fit. Assumes nothing.
use mathlib.Core.Path.{sym, ap}
use native.Mathlib.Nat.{mul-le-mul}
use native.Mathlib.Omega.{arith}
use Prim.Native.Nat.{ℕ, ◌+◌, ◌*◌, ◌≤◌, ◌<◌}
use lib.ListN.{length, get_or}
use Rattle.bounds.specs.Bounds.{most_nodes, most_commodities}
use Rattle.packed.specs.Packed.{net_in, sources_from, net_numbers}
use Rattle.packed.proofs.Columns.{part_at, arcs-is, commodities-is}
use Rattle.tables.proofs.Pushed.{push-more, push-all}
use Rattle.tables.proofs.draws.push.Goals as goal
use Rattle.tables.proofs.draws.push.Goals.{Start}

pub overflow_mul-base : goal.overflow_mul-base
overflow_mul-base c =
    omega (arith, c.requires.pushing.row, c.requires.pushing.long, ap (λ m. c.args.commodity * m) (arcs-is c.requires.packed))

pub cross-v-requires : goal.cross-v-requires
cross-v-requires c =
    let p = c.requires.pushing in
    let arcs = arcs-is c.requires.packed in
    let arc : ℕ = get_or c.args.path.now c.loop-e.e-index 0 in
    let here = p.places c.loop-e.e-index c.loop-e-test.true in
    let place : c.args.commodity * c.args.net.now.shape.arcs + arc < length c.args.flow.now =
    omega (arith, here, p.row, ap (λ m. c.args.commodity * m) arcs, arcs) in
    let few : c.loop-e.e-index ≤ most_nodes = omega (arith, p.few) in
    record {
      packed = c.requires.packed;
      arc = omega (arith, here, arcs);
      place = omega (arith, place);
      amount = omega (arith, c.loop-e.invariant.sizes _ place, p.amounts _ place, mul-le-mul few p.small, p.small);
    }

pub loop-e-preserved : goal.loop-e-preserved
loop-e-preserved c =
    push-more _ _ _ c.loop-e.invariant c.loop-e.auto.flow c.loop-e-test.true c.cross-v.ensures.0 c.cross-v.ensures.1

pub returns : goal.returns
unfolding net_in
returns c =
    let a = c.args in
    push-all c.loop-e.invariant c.loop-e-test.false (ap (λ m. a.commodity * m) (sym (arcs-is c.requires.packed)))
    (sym (part_at sources_from a.net.now.shape.commodities a.net.now.numbers.now a.commodity (omega (arith, c.requires.pushing.listed, commodities-is c.requires.packed))))

-- the commodity's place in its column
listed : (s : Start) → (s.args.commodity < most_commodities) × (net_numbers ≤ length s.args.net.now.numbers.now)
listed s = (omega (arith, s.requires.pushing.listed, commodities-is s.requires.packed, s.requires.packed.few-commodities), s.requires.packed.places)

pub overflow_add-v : goal.overflow_add-v
overflow_add-v c = omega (arith, listed (goal.at.overflow_add-v c).Start)

pub offset_bounds-net-commodity : goal.offset_bounds-net-commodity
offset_bounds-net-commodity c = omega (arith, listed (goal.at.offset_bounds-net-commodity c).Start)

pub bounds-net-commodity : goal.bounds-net-commodity
bounds-net-commodity c = omega (arith, listed (goal.at.bounds-net-commodity c).Start)
