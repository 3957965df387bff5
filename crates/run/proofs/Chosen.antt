-- What the search for a path asks at a state of the run, and what it gives there: the method's choice.
-- Assumes nothing.
use mathlib.Core.Path.{◌≡◌, refl, sym, ap, ◌∙◌}
use mathlib.Core.Option.{some, none-ne-some}
use mathlib.Core.List.{List}
use Prim.Native.Nat.{ℕ, ◌≤◌}
use native.Mathlib.Omega.{arith}
use lib.ListN.{length, take, drop, take-append-drop}
use lib.Seq.{length-take-le, take-append-le}
use Rattle.std.specs.Prelude.{Option, Some, None, IsSome}
use Rattle.network.specs.Network.{Network, source}
use Rattle.network.specs.Resources.{uses}
use Rattle.packed.specs.Packed.{net_in}
use Rattle.packed.specs.declared.Shape.{Shape}
use Rattle.method.specs.Choice.{Choice, used_by, choice_of, choice}
use Rattle.method.specs.Iteration.{State, advance, iteration}
use Rattle.method.specs.declared.Selected.{Selected}
use Rattle.method.proofs.Reached.{Reached}
use Rattle.method.proofs.Sized.{reached-sizes}
use Rattle.memory.specs.Memory.{Memory}
use Rattle.choice.specs.Calls.{Choosing}
use Rattle.choice.specs.Chose.{Picked, Chose}
use Rattle.choice.proofs.Ready.{sound-survey}
use Rattle.step.specs.Steps.{chosen_in}
use Rattle.run.specs.Runs.{Space, Chooses}

-- At every state that the run reaches, a choice can be made by its lengths.
pub choosing :
    {s : Shape} {q : ℕ} {net indexes memory : List ℕ} {numbers places : ℕ} → Space s q net indexes numbers places → (t : State) →
    Reached (net_in s net) q t → {l : List ℕ} → l ≡ t.lengths → Memory s (net_in s net) l memory → Choosing s net indexes l memory places
choosing {s} {q} {net} room t r e memory-of =
    let z = reached-sizes (net_in s net) q room.lent.sound t r in
    record {
      packed = room.lent.packed;
      counted = room.lent.counted;
      survey = rw e (sound-survey room.lent.sound z.length_high r.valid.lengths);
      indexed = room.indexed;
      memory-of = memory-of;
      room = room.path;
    }

-- Where something is chosen whatever the lengths, the search picks something.
pub picks : (net : Network) → Chooses net → (l : List ℕ) (r : Option Selected) (path : List ℕ) → Chose net l r path → IsSome r
picks net chooses l (Some r) path k = refl
picks net chooses l None path k = let c = chooses l in absurd (none-ne-some c.0 (sym k ∙ c.1))

-- What is selected, by the part of the slice that holds what the path uses.
module _ (net : Network) (l : List ℕ) (r : Selected) (path : List ℕ) (k : Picked net l r path) (room : r.used ≤ length path) where
  abbrev used : List ℕ
  used = take r.used path

  arcs-are : take r.arcs used ≡ take r.arcs path
  arcs-are =
      sym (take-append-le r.arcs used (drop r.used path) (omega (arith, length-take-le r.used path room, k.some_more))) ∙
      ap (take r.arcs) (take-append-drop r.used path)

  pub selected-uses : used ≡ used_by net (chosen_in r used)
  selected-uses = k.used ∙ ap (uses net (source net r.commodity)) (sym arcs-are)

  pub selected-chosen : choice net l ≡ some (chosen_in r used)
  selected-chosen = k.chosen ∙ ap (λ p. some (choice_of r.commodity p)) (sym arcs-are)

-- The iteration that chooses c.
pub iteration-is : (net : Network) (q : ℕ) (s : State) (c : Choice) → choice net s.lengths ≡ some c → iteration net q s ≡ advance net q c s
unfolding iteration
iteration-is net q s c h = rw (h, iteration) refl
