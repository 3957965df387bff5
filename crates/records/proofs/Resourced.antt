-- The resources of a network whose limits are the first of those lent. Assumes nothing.
use mathlib.Core.Path.{◌≡◌, sym, ap, ◌∙◌}
use mathlib.Core.List.{List}
use Prim.Native.Nat.{ℕ, ◌+◌}
use native.Mathlib.Nat.{le_of_eq}
use native.Mathlib.Omega.{arith}
use lib.ListN.{length, get_or, take, length-take}
use lib.Seq.{take_all, take-take, get_or-take}
use Rattle.network.specs.Network.{Network, arcs}
use Rattle.network.specs.Resources.{resources}
use Rattle.network.proofs.Given.{given-same, resources-given}
use Rattle.records.specs.Parts.{limits_read, resources_of}

-- As many as are read, or as many as there are nodes: it is the same.
pub limits-taken : (n : ℕ) (limits : List ℕ) → take (limits_read n limits) limits ≡ take n limits
limits-taken n limits =
    sym (take-take (limits_read n limits) n limits (omega arith)) ∙ take_all (limits_read n limits) (take n limits) (le_of_eq (length-take n limits))

pub lent-resources : (net : Network) (limits : List ℕ) → net.limits ≡ take net.nodes limits → resources net ≡ resources_of net.nodes (arcs net) limits
lent-resources net limits e =
    let n = net.nodes in
    let c = limits_read n limits in
    resources-given net c (le_of_eq (ap length e ∙ length-take n limits)) (omega arith) ∙
    ap (λ g. arcs net + g)
    (given-same net.limits limits c (λ i l. ap (λ xs. get_or xs i 0) e ∙ get_or-take n limits i 0 (omega arith)))
