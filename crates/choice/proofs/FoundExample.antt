-- A search in which the rule for tied commodities decides, and one that finds none joined: so what the laws of the search ask for exists.
-- Assumes nothing.
use mathlib.Core.Path.{◌≡◌, refl}
use mathlib.Core.Logic.{inr}
use mathlib.Core.Option.{none, some}
use mathlib.Core.List.{[], ◌∷◌}
use Prim.Native.Nat.{ℕ, zero, suc, ◌≤◌, ◌<◌}
use native.Mathlib.Omega.{arith}
use lib.ListN.{get_or}
use borrow.Author.Count.{below_none, below_more}
use Rattle.arith.specs.Lists.{up_from, up_to, flat}
use Rattle.network.specs.Ends.{Ends}
use Rattle.network.specs.Network.{Network}
use Rattle.network.specs.Path.{path_length}
use Rattle.network.specs.Resources.{limits_below, place, resources, used_at, uses}
use Rattle.network.specs.Onward.{node_length}
use Rattle.network.specs.Verdict.{verdict, outside, loose, size_conditions, arc_conditions, limit_conditions, commodity_conditions, item_conditions, verdict_on}
use Rattle.network.specs.Refusal.{Accepted}
use Rattle.network.proofs.Accepted.{accepted-sound}
use Rattle.network.proofs.Sounds.{sound-ends}
use Rattle.method.specs.Choice.{choice_of, choice}
use Rattle.memory.specs.Below.{Below}
use Rattle.memory.specs.Least.{Least}
use Rattle.memory.specs.Raised.{told_by, Greater, Raised}
use Rattle.memory.proofs.Bounds.{below-zero, below_raised}
use Rattle.choice.specs.Closest.{Closest}
use Rattle.paths.specs.Far.{far_length, far}
use Rattle.paths.specs.Graph.{Table}
use Rattle.choice.proofs.Found.{closest-none, closest-choice}
use Rattle.paths.proofs.Telling.{distance-length}
use Rattle.paths.proofs.WalkExample.{floor, lengths, near, away, bounded, to-3, to-1, walk}
use Rattle.paths.proofs.Walking.{walk-arrived}

-- Twice the commodity from 1 to 3.
abbrev twice : Network
twice = floor (1 ∷ 1 ∷ []) (3 ∷ 3 ∷ [])

-- The commodity from 3 to 1, for which there is no path.
abbrev parted : Network
parted = floor (3 ∷ []) (1 ∷ [])

accepted : (verdict_on twice 4 [] ≡ Accepted) × (verdict_on parted 4 [] ≡ Accepted)
unfolding up_from up_to flat limits_below place resources verdict outside loose size_conditions arc_conditions limit_conditions commodity_conditions item_conditions verdict_on
accepted = (refl, refl)

ends : (net : Network) → verdict_on net 4 [] ≡ Accepted → Ends net
ends net h = sound-ends net 4 (accepted-sound net 4 [] h).0

-- What holds of 0, and of 0 and 1, and of 0 to 3, holds below 1, 2 and 4.
one : (P : ℕ → Type 0) → P 0 → (i : ℕ) → i < 1 → P i
one P a = below_more P 0 (below_none P) a

two : (P : ℕ → Type 0) → P 0 → P 1 → (i : ℕ) → i < 2 → P i
two P a b = below_more P 1 (one P a) b

four : (P : ℕ → Type 0) → P 0 → P 1 → P 2 → P 3 → (i : ℕ) → i < 4 → P i
four P a b c d = below_more P 3 (below_more P 2 (two P a b) c) d

-- The distances to 3, and to 1.
table-3 : Table twice lengths near 3 far
table-3 =
    record {
      distances = to-3 _ _;
      some-path = distance-length (ends twice accepted.0) (omega arith) (to-3 _ _);
      capped = λ v b. four (λ v. get_or near v 0 ≤ far) (omega arith) (omega arith) (omega arith) (omega arith) v (omega arith);
    }

table-1 : Table parted lengths away 1 far
table-1 =
    record {
      distances = to-1 _ _;
      some-path = distance-length (ends parted accepted.1) (omega arith) (to-1 _ _);
      capped = λ v b. four (λ v. get_or away v 0 ≤ far) (omega arith) (omega arith) (omega arith) (omega arith) v (omega arith);
    }

-- Bounds of 0, raised: one search serves both commodities.
raised-3 : Raised (node_length twice lengths) (1 ∷ 1 ∷ []) (3 ∷ 3 ∷ []) near (0 ∷ 0 ∷ []) (3 ∷ 3 ∷ []) 2
unfolding node_length used_at path_length
raised-3 =
    record {
      size = refl;
      each =
          two (λ i. Greater (get_or (0 ∷ 0 ∷ []) i 0) (told_by (node_length twice lengths) near (get_or (1 ∷ 1 ∷ []) i 0) (get_or (3 ∷ 3 ∷ []) i 0)) (get_or (3 ∷ 3 ∷ []) i 0))
          (record { first = omega arith; second = omega arith; one = inr refl })
          (record { first = omega arith; second = omega arith; one = inr refl });
      rest = rest;
    }
  where
    rest : (i : ℕ) → 2 ≤ i → ◌≡◌ {A = ℕ} (get_or (3 ∷ 3 ∷ []) i 0) (get_or (0 ∷ 0 ∷ []) i 0)
    rest zero b = absurd (omega arith)
    rest (suc zero) b = absurd (omega arith)
    rest (suc (suc i)) b = refl

raised-1 : Raised (node_length parted lengths) (3 ∷ []) (1 ∷ []) away (0 ∷ []) (far_length ∷ []) 1
unfolding node_length used_at path_length
raised-1 =
    record {
      size = refl;
      each =
          one (λ i. Greater (get_or (0 ∷ []) i 0) (told_by (node_length parted lengths) away (get_or (3 ∷ []) i 0) (get_or (1 ∷ []) i 0)) (get_or (far_length ∷ []) i 0))
          (record { first = omega arith; second = omega arith; one = inr refl });
      rest = rest;
    }
  where
    rest : (i : ℕ) → 1 ≤ i → ◌≡◌ {A = ℕ} (get_or (far_length ∷ []) i 0) (get_or (0 ∷ []) i 0)
    rest zero b = absurd (omega arith)
    rest (suc i) b = refl

-- The first commodity is the lowest-numbered of the two equal bounds,
least : Least (3 ∷ 3 ∷ []) 2 0
least =
    record {
      among = omega arith;
      least = two (λ j. 3 ≤ get_or (3 ∷ 3 ∷ []) j 0) (omega arith) (omega arith);
      lowest = λ j b. absurd (omega arith);
    }

bounds : Below twice lengths (3 ∷ 3 ∷ [])
bounds =
    below_raised (ends twice accepted.0) (omega arith) (below-zero twice lengths {n = 2} refl) raised-3 (to-3 _ _).feasible table-3.capped

-- its walk is as long,
closest : Closest twice lengths (3 ∷ 3 ∷ []) near 0 (2 ∷ []) 1
unfolding node_length used_at path_length
closest = record { feasible = (to-3 _ _).feasible; arrived = walk-arrived (to-3 _ _).feasible (walk _ _) refl (omega arith); own = refl }

-- and it is chosen, with the path of one arc.
found : (choice twice lengths ≡ some (choice_of 0 (2 ∷ []))) × (path_length lengths (uses twice 1 (2 ∷ [])) ≡ 3)
found = closest-choice bounds least (ends twice accepted.0) (omega arith) closest

-- The only bound is far,
alone : Least (far_length ∷ []) 1 0
alone =
    record { among = omega arith; least = one (λ j. far_length ≤ get_or (far_length ∷ []) j 0) (omega arith); lowest = λ j b. absurd (omega arith) }

far-off : Below parted lengths (far_length ∷ [])
far-off =
    below_raised (ends parted accepted.1) (omega arith) (below-zero parted lengths {n = 1} refl) raised-1 (to-1 _ _).feasible table-1.capped

-- so nothing is chosen.
not_found : choice parted lengths ≡ none
not_found = closest-none far-off alone (ends parted accepted.1) (omega arith) (bounded _ _) (omega arith)
