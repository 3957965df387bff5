-- `lengths::halve` meets its contract: the first e lengths are halved, with their part of D, and the others are as they
-- were. Assumes nothing.
use mathlib.Core.Path.{◌≡◌, sym, ap, ◌∙◌}
use mathlib.Core.List.{map}
use Prim.Native.Nat.{◌+◌, ◌*◌, ◌^◌, ◌<◌}
use native.Mathlib.Omega.{arith}
use lib.ListN.{get_or, length-map}
use Rattle.arith.proofs.Lists.{map_at}
use Rattle.length.specs.Length.{halving}
use Rattle.tables.proofs.Filled.{fill-next}
use Rattle.lengths.proofs.Weighable.{halved-weighable}
use Rattle.lengths.proofs.Weighed.{weigh-none, weigh-more, weigh-most, weigh-all}
use Rattle.lengths.proofs.halve.Goals as goal
use Rattle.lengths.proofs.halve.Goals.{After-halving-half}

-- The next length was as it came, and is halved,
half : (c : After-halving-half) → c.halving-half.result.value ≡ get_or (map halving c.args.lengths.now) c.loop-e.e 0
half c =
    let here = map_at halving c.args.lengths.now c.loop-e.e (omega arith) in
    c.halving-half.ensures ∙ (ap halving (fill-next c.loop-e.invariant.filling) ∙ sym here)

-- and D with its part fits.
fits : (c : After-halving-half) →
    c.loop-e.d + get_or c.args.capacities.now c.loop-e.e 0 * c.halving-half.result.value < 2 ^ 58
fits c = weigh-most (halved-weighable c.requires) c.loop-e.invariant (omega arith) (half c)

pub loop-e-init : goal.loop-e-init
loop-e-init c = weigh-none _ _ _

pub loop-e-preserved : goal.loop-e-preserved
loop-e-preserved c =
    weigh-more _ c.loop-e.invariant (omega arith) (half (goal.at.loop-e-preserved c).After-halving-half)

pub overflow_mul-d : goal.overflow_mul-d
overflow_mul-d c = omega (arith, fits (goal.at.overflow_mul-d c).After-halving-half)

pub overflow_add-d : goal.overflow_add-d
overflow_add-d c = omega (arith, fits (goal.at.overflow_add-d c).After-halving-half)

pub returns : goal.returns
returns c = weigh-all c.loop-e.invariant (omega arith) (length-map c.args.lengths.now halving) c.requires.same

pub halving-half-requires : goal.halving-half-requires
halving-half-requires c = rw (fill-next c.loop-e.invariant.filling) (c.requires.grown _ (omega arith))
