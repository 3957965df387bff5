-- V is at most B: the plan itself is one of the flows that `upper` speaks of, so both halves of the
-- guarantee are about the same flows.
-- Assumes nothing.
use mathlib.Core.Path.{ap}
use Prim.Native.Nat.{ℕ, ◌*◌, ◌≤◌}
use native.Mathlib.Omega.{arith}
use lib.IntN.{ℤ}
use Rattle.network.specs.Network.{Network}
use Rattle.network.proofs.Scaled.{scaled, scaled-flow, scaled-keeps, leaving-times, entering-times}
use Rattle.method.specs.Answer.{Outcome, amounts}
use Rattle.method.specs.Guarantee.{Guarantee}

-- F * c(b) / Y(b) ≤ D / alpha, multiplied out
pub plan-within :
    (net : Network) (q : ℕ) (o : Outcome) → Guarantee net q o →
    o.answer.total * o.answer.capacity * o.answer.alpha ≤ o.answer.bound * o.answer.load
plan-within net q o g =
    let c : ℕ = o.answer.capacity in
    let a : ℕ = o.answer.alpha in
    let f : ℕ → ℕ → ℤ = amounts net o.flow in
    omega (
      arith,
      g.upper o.answer.load (scaled c f) (scaled-flow net c f g.flow) (scaled-keeps net c f o.answer.load g.keeps),
      ap (λ x. x * a) (leaving-times net c f),
      ap (λ x. x * a) (entering-times net c f),
      ap (λ x. c * x * a) g.total,
    )
