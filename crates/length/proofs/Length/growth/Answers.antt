-- `length::Length::growth` meets its contract: the quotient is the definition's.
-- Assumes nothing.
use Prim.Native.Nat.{◌+◌, ◌*◌, ◌<◌}
use mathlib.Core.Path.{ap, ◌∙◌}
use native.Mathlib.Nat.{mul-pos}
use native.Mathlib.Omega.{arith}
use Rattle.arith.proofs.Ceilings.{ceil-std}
use Rattle.length.specs.Length.{growth}
use Rattle.length.proofs.Length.growth.Goals as goal

pub returns : goal.returns
unfolding growth
returns c =
    let a = c.args in
    let positive : 0 < a.q * a.capacity = mul-pos (omega arith) (omega arith) in
    let quotient = c.div_ceil.ensures ∙ ceil-std (a.self.value * a.draw) (a.q * a.capacity) positive in
    ap (λ n. a.self.value + n) quotient
