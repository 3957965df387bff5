-- The iterations of a call are few enough for the running count. Assumes nothing.
use Prim.Native.Nat.{ℕ, ◌≤◌}
use native.Mathlib.Nat.{le_trans, mul-le-mul}
use native.Mathlib.Omega.{arith}
use Rattle.length.proofs.Bounds.{threshold-most}
use Rattle.network.specs.Network.{Network}
use Rattle.network.specs.Resources.{resources}
use Rattle.network.specs.Sound.{Sound}
use Rattle.network.proofs.Resources.{arcs-le}
use Rattle.method.specs.Answer.{Outcome}
use Rattle.method.specs.Guarantee.{Guarantee}

pub count_small : (net : Network) (q : ℕ) → Sound net q → (o : Outcome) → Guarantee net q o → o.answer.count ≤ 376832
count_small net q sound o g =
    let k = sound.counts in
    omega (
      arith,
      g.count,
      mul-le-mul k.of-resources
          (threshold-most (resources net) q (le_trans k.of-arcs.least (arcs-le net)) k.of-resources k.precision.least k.precision.most),
    )
