-- The shape of the network in the bytes: how many limits are read, and what they and the arcs count. Assumes nothing.
use mathlib.Core.Path.{◌≡◌, sym, ap, ◌∙◌}
use mathlib.Core.List.{List}
use Prim.Native.Nat.{ℕ, min, ◌+◌}
use native.Mathlib.Omega.{arith}
use Rattle.network.specs.Given.{given}
use Rattle.network.specs.Resources.{resources}
use Rattle.network.proofs.Given.{resources-given}
use Rattle.numbers.specs.Numbers.{count, items, column}
use Rattle.numbers.proofs.Columns.{length-column}
use Rattle.decode.specs.Decode.{network_in}

pub counts :
    (n : ℕ) (belts pairs limits : List ℕ) (c : ℕ) → c ≡ min n (count limits) →
    items 4 belts + given (column limits 1 0 c) c ≡ resources (network_in n belts pairs limits)
unfolding network_in
counts n belts pairs limits c e =
    let net = network_in n belts pairs limits in
    rw e
    (sym
    (resources-given net (min n (count limits)) (omega (arith, length-column limits 1 0 (min n (count limits)))) (omega arith) ∙
    ap (λ m. m + given net.limits (min n (count limits))) (length-column belts 4 0 (items 4 belts))))
