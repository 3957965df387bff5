-- Document 01's listing example, two nodes joined by two arcs, is a sound network: so Sound is not empty. Faulty ones beside it show the order of the
-- conditions. Assumes nothing.
use mathlib.Core.Path.{◌≡◌, refl}
use mathlib.Core.List.{List, [], ◌∷◌}
use Prim.Native.Nat.{ℕ}
use Rattle.arith.specs.Lists.{up_from, up_to, flat}
use Rattle.network.specs.Network.{Network}
use Rattle.network.specs.Resources.{limits_below, place, resources}
use Rattle.network.specs.Sound.{Sound}
use Rattle.network.specs.Verdict.{verdict, outside, loose, size_conditions, arc_conditions, limit_conditions, commodity_conditions, item_conditions, verdict_on}
use Rattle.network.specs.declared.Refusal.TheVariants.{LooseArc, Capacity, Commodities, Limit, Resources}
use Rattle.network.specs.Refusal.{Accepted, Refused}
use Rattle.network.proofs.Accepted.{accepted-sound}

-- one commodity from node 1 to this sink, two arcs to node 2 with these tails and capacities, and these limits
abbrev pub two-arcs : List ℕ → List ℕ → List ℕ → ℕ → Network
two-arcs tails capacities limits sink =
    record { nodes = 2; tails = tails; heads = 2 ∷ 2 ∷ []; capacities = capacities; marks = 0 ∷ 0 ∷ []; limits = limits; sources = 1 ∷ []; sinks = sink ∷ [] }

-- The listing's network is accepted; an arc's ends are looked at before its capacity, and the first arc before the second.
pub verdicts :
    (verdict_on (two-arcs (1 ∷ 1 ∷ []) (1 ∷ 1 ∷ []) [] 2) 4 [] ≡ Accepted) ×
    (verdict_on (two-arcs (2 ∷ 1 ∷ []) (0 ∷ 1 ∷ []) [] 2) 4 [] ≡ Refused (LooseArc 1)) ×
    (verdict_on (two-arcs (1 ∷ 2 ∷ []) (1001 ∷ 1 ∷ []) [] 2) 4 [] ≡ Refused (Capacity 1))
unfolding verdict_on size_conditions item_conditions arc_conditions limit_conditions commodity_conditions resources place limits_below verdict outside loose flat up_to up_from
verdicts = (refl, refl, refl)

-- Limits: 0 is none, and 1,000 the most; they are looked at after the arcs and before the commodities. How many resources there are is looked at before
-- how many commodities.
pub limited-verdicts :
    (verdict_on (two-arcs (1 ∷ 1 ∷ []) (1 ∷ 1 ∷ []) (0 ∷ 1000 ∷ []) 2) 4 [] ≡ Accepted) ×
    (verdict_on (two-arcs (1 ∷ 1 ∷ []) (1 ∷ 0 ∷ []) (1001 ∷ []) 2) 4 [] ≡ Refused (Capacity 2)) ×
    (verdict_on (two-arcs (1 ∷ 1 ∷ []) (1 ∷ 1 ∷ []) (1 ∷ 1001 ∷ []) 1) 4 [] ≡ Refused (Limit 2)) ×
    (verdict (size_conditions 64 256 256 0 4) ≡ Refused Commodities) ×
    (verdict (size_conditions 64 256 257 0 4) ≡ Refused Resources)
unfolding verdict_on size_conditions item_conditions arc_conditions limit_conditions commodity_conditions resources place limits_below verdict outside loose flat up_to up_from
limited-verdicts = (refl, refl, refl, refl, refl)

pub listing-sound : Sound (two-arcs (1 ∷ 1 ∷ []) (1 ∷ 1 ∷ []) [] 2) 4
listing-sound = (accepted-sound _ 4 [] verdicts.0).0
