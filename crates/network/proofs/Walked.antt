-- A small network walked: where its arcs lead, from which nodes, and that there is none past the last.
-- Assumes nothing.
use mathlib.Core.Path.{◌≡◌, refl}
use mathlib.Core.Option.{none, some, bind}
use mathlib.Core.List.{[], ◌∷◌}
use Rattle.network.specs.Network.{Network}
use Rattle.network.specs.Path.{leads, follow}
use Rattle.network.specs.Visited.{visited}

-- Arcs 1 to 2, 2 to 3 and 1 to 3, the second reversible.
three : Network
three =
    record {
      nodes = 3;
      tails = 1 ∷ 2 ∷ 1 ∷ [];
      heads = 2 ∷ 3 ∷ 3 ∷ [];
      capacities = 1 ∷ 1 ∷ 1 ∷ [];
      marks = 0 ∷ 2 ∷ 0 ∷ [];
      limits = [];
      sources = 1 ∷ [];
      sinks = 3 ∷ [];
    }

over-two : follow three 1 (0 ∷ 1 ∷ []) ≡ some 3
unfolding three leads follow bind
over-two = refl

its-nodes : visited three 1 (0 ∷ 1 ∷ []) ≡ 1 ∷ 2 ∷ 3 ∷ []
unfolding three leads visited
its-nodes = refl

-- A reversible arc is taken either way,
either_way : (leads three 2 1 ≡ some 3) × (leads three 3 1 ≡ some 2) × (leads three 1 1 ≡ none)
unfolding three leads
either_way = (refl, refl, refl)

-- another is not entered at its head,
not_back : leads three 2 0 ≡ none
unfolding three leads
not_back = refl

-- and past the last arc nothing leads anywhere, from node 0 neither.
past-the-last : leads three 0 3 ≡ none
unfolding three leads
past-the-last = refl
