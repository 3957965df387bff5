-- An accepted network meets what the choice asks, with lengths of a run and tables that are large enough; and one such network.
-- Assumes nothing.
use mathlib.Core.Path.{◌≡◌, refl}
use mathlib.Core.List.{List, [], ◌∷◌}
use Prim.Native.Nat.{ℕ, ◌^◌, ◌<◌}
use native.Mathlib.Omega.{arith}
use lib.ListN.{length, get_or}
use borrow.Author.Count.{below_none, below_more}
use Rattle.network.specs.Ends.{Node}
use Rattle.network.specs.Network.{Network, tail, head, source, sink}
use Rattle.network.specs.Resources.{limits_below, place, resources}
use Rattle.network.specs.Sound.{Sound}
use Rattle.network.proofs.Sounds.{sound-ends}
use Rattle.paths.specs.Far.{Bounded}
use Rattle.choice.specs.Search.{Survey}

-- Rows 1, 3, 6 and 8 of document 01, "Turned down", give what the choice asks of the network.
pub sound-survey : {net : Network} {q : ℕ} {l : List ℕ} → Sound net q → Bounded net l → length l ≡ resources net → Survey net l
sound-survey {net} {q} sound bounds long =
    record {
      fit = record { ends = sound-ends net q sound; lengths = long; small = bounds; room = omega (arith, sound.counts.of-nodes.most) };
      few = sound.counts.of-nodes.most;
      some = sound.counts.of-commodities.least;
    }

-- One arc and one commodity, from 1 to 2, and a limit at 1.
pair : Network
pair =
    record { nodes = 2; tails = 1 ∷ []; heads = 2 ∷ []; capacities = 1 ∷ []; marks = 0 ∷ []; limits = 1 ∷ []; sources = 1 ∷ []; sinks = 2 ∷ [] }

-- So there are two resources.
pair-resources : 2 ≡ resources pair
unfolding pair resources place limits_below
pair-resources = refl

-- What holds of 0 holds below 1.
only : (P : ℕ → Type 0) → P 0 → (i : ℕ) → i < 1 → P i
only P a = below_more P 0 (below_none P) a

-- It meets all that is asked.
pair-survey : Survey pair (1 ∷ 1 ∷ [])
unfolding pair
pair-survey =
    record {
      fit =
          record {
            ends =
                record {
                  tails = only (λ e. Node pair (tail pair e)) (omega arith);
                  heads = only (λ e. Node pair (head pair e)) (omega arith);
                  sources = only (λ i. Node pair (source pair i)) (omega arith);
                  sinks = only (λ i. Node pair (sink pair i)) (omega arith);
                  apart = only (λ i. source pair i ≡ sink pair i → ⊥) (λ q. omega arith);
                };
            lengths = pair-resources;
            small = λ e b. two e (omega (arith, pair-resources));
            room = omega arith;
          };
      few = omega arith;
      some = omega arith;
    }
  where
    two : (e : ℕ) → e < 2 → get_or (1 ∷ 1 ∷ []) e 0 < 2 ^ 40
    two = below_more (λ e. get_or (1 ∷ 1 ∷ []) e 0 < 2 ^ 40) 1 (only (λ e. get_or (1 ∷ 1 ∷ []) e 0 < 2 ^ 40) (omega arith)) (omega arith)
