-- `lengths::start` meets its contract: the first e lengths are at their start, with their part of D.
-- Assumes nothing.
use mathlib.Core.Path.{◌≡◌, sym, ◌∙◌}
use Prim.Native.Nat.{◌+◌, ◌*◌, ◌^◌, ◌<◌}
use native.Mathlib.Omega.{arith}
use lib.ListN.{get_or, length-map}
use Rattle.arith.proofs.Lists.{map_at}
use Rattle.length.specs.Length.{start}
use Rattle.lengths.specs.Results.{first_lengths}
use Rattle.lengths.proofs.Weighable.{first-weighable}
use Rattle.lengths.proofs.Weighed.{weigh-none, weigh-more, weigh-most, weigh-all}
use Rattle.lengths.proofs.start.Goals as goal
use Rattle.lengths.proofs.start.Goals.{After-start-first}

-- The next length is its resource's start,
first : (c : After-start-first) → c.start-first.result.value ≡ get_or (first_lengths c.args.capacities.now) c.loop-e.e 0
first c = c.start-first.ensures.value ∙ sym (map_at start c.args.capacities.now c.loop-e.e (omega arith))

-- and D with its part fits.
fits : (c : After-start-first) →
    c.loop-e.d + get_or c.args.capacities.now c.loop-e.e 0 * c.start-first.result.value < 2 ^ 58
fits c = weigh-most (first-weighable c.requires) c.loop-e.invariant (omega arith) (first c)

pub loop-e-init : goal.loop-e-init
loop-e-init c = weigh-none _ _ _

pub loop-e-preserved : goal.loop-e-preserved
loop-e-preserved c =
    weigh-more _ c.loop-e.invariant (omega (arith, c.requires.same)) (first c)

pub overflow_mul-d : goal.overflow_mul-d
overflow_mul-d c = omega (arith, fits c)

pub overflow_add-d : goal.overflow_add-d
overflow_add-d c = omega (arith, fits c)

pub returns : goal.returns
returns c =
    let r = c.requires in
    weigh-all c.loop-e.invariant (omega (arith, r.same)) (length-map c.args.capacities.now start ∙ sym r.same) r.same
