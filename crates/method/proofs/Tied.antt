-- Worked choices in which each rule for ties decides, and an instance of what the theorem on the choice asks for: nothing is proved of nothing.
-- Assumes nothing.
use mathlib.Core.Path.{◌≡◌, refl}
use mathlib.Core.Option.{some, bind}
use mathlib.Core.List.{List, [], ◌∷◌}
use Prim.Native.Nat.{ℕ}
use Rattle.arith.specs.Lists.{up_from, up_to, flat, keep}
use Rattle.network.specs.Network.{Network}
use Rattle.network.specs.Path.{leads, follow, path_length}
use Rattle.network.specs.Resources.{limits_below, place, resources, used_at, uses}
use Rattle.network.specs.Sound.{Sound}
use Rattle.network.specs.Verdict.{verdict, outside, loose, size_conditions, arc_conditions, limit_conditions, commodity_conditions, item_conditions, verdict_on}
use Rattle.network.specs.Visited.{visited}
use Rattle.network.specs.Refusal.{Accepted}
use Rattle.network.proofs.Accepted.{accepted-sound}
use Rattle.network.proofs.Sounds.{sound-ends}
use Rattle.method.specs.Choice.{choice_of, words, ends_at, paths, candidates, sooner, least, choice}
use Rattle.method.specs.Chosen.{Chosen}
use Rattle.method.proofs.Choosing.{chosen}

-- Arcs 1 to 2, 2 to 3, twice 1 to 3, and 3 to 1; and commodities from ss to ts.
abbrev floor : List ℕ → List ℕ → Network
floor ss ts =
    record {
      nodes = 3;
      tails = 1 ∷ 2 ∷ 1 ∷ 1 ∷ 3 ∷ [];
      heads = 2 ∷ 3 ∷ 3 ∷ 3 ∷ 1 ∷ [];
      capacities = 1 ∷ 1 ∷ 1 ∷ 1 ∷ 1 ∷ [];
      marks = [];
      limits = [];
      sources = ss;
      sinks = ts;
    }

-- The commodity from 1 to 3 twice.
abbrev twice : Network
twice = floor (1 ∷ 1 ∷ []) (3 ∷ 3 ∷ [])

-- By these its three paths are equally long.
lengths : List ℕ
lengths = 1 ∷ 1 ∷ 2 ∷ 2 ∷ 2 ∷ []

-- The lower commodity; not the path over node 2, which has one arc more; and of the two straight arcs the lower.
tied : choice twice lengths ≡ some (choice_of 0 (2 ∷ []))
unfolding lengths up_from up_to flat keep leads follow bind path_length visited used_at uses words ends_at paths candidates sooner least choice
tied = refl

-- From 1 to 3 and back, by lengths that make the path over node 2 as long as the arc from 3: the lower commodity, though its path has more arcs.
lower : choice (floor (1 ∷ 3 ∷ []) (3 ∷ 1 ∷ [])) (1 ∷ 1 ∷ 3 ∷ 3 ∷ 2 ∷ []) ≡ some (choice_of 0 (0 ∷ 1 ∷ []))
unfolding up_from up_to flat keep leads follow bind path_length visited used_at uses words ends_at paths candidates sooner least choice
lower = refl

-- The network is accepted at precision 4.
accepted : verdict_on twice 4 [] ≡ Accepted
unfolding up_from up_to flat limits_below place resources verdict outside loose size_conditions arc_conditions limit_conditions commodity_conditions item_conditions verdict_on
accepted = refl

sound : Sound twice 4
sound = (accepted-sound twice 4 [] accepted).0

tied-chosen : Chosen twice lengths (choice_of 0 (2 ∷ []))
tied-chosen = chosen twice lengths (sound-ends twice 4 sound) (choice_of 0 (2 ∷ [])) tied
