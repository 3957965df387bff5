-- Lengths that an iteration has not halved have only grown, so that what is remembered holds on. Assumes nothing.
use mathlib.Core.Path.{◌≡◌, refl, sym, ◌∙◌}
use mathlib.Core.Bool.{Bool, true, false}
use mathlib.Core.List.{List, [], ◌∷◌}
use Prim.Native.Nat.{ℕ, zero, suc, ◌≤◌}
use native.Mathlib.Nat.{le_refl}
use native.Mathlib.Omega.{arith}
use lib.ListN.{length, get_or, set}
use Rattle.length.proofs.Size.{growth-least}
use Rattle.bounds.specs.Bounds.{most_nodes, most_commodities}
use Rattle.network.specs.Ends.{Ends}
use Rattle.network.specs.Network.{Network, commodities}
use Rattle.network.specs.Resources.{resources, resource_capacities}
use Rattle.packed.specs.declared.Shape.{Shape}
use Rattle.method.specs.Choice.{Choice, used_by}
use Rattle.method.specs.Iteration.{State, draw, update, grown, settled, advance}
use Rattle.length.specs.Length.{growth}
use Rattle.method.proofs.Times.{update-length}
use Rattle.memory.specs.Memory.{Memory}
use Rattle.memory.proofs.Forgets.{forgotten-memory}
use Rattle.memory.proofs.Memories.{known_grown}
use Rattle.tables.specs.Tables.{longer}
use Rattle.step.specs.Progress.{halves}
use Rattle.run.specs.Noted.{Kept}

-- A store of no less leaves no number less,
set-least : (xs : List ℕ) (e v j : ℕ) → get_or xs e 0 ≤ v → get_or xs j 0 ≤ get_or (set xs e v) j 0
set-least [] e v j h = le_refl _
set-least (x ∷ xs) zero v zero h = h
set-least (x ∷ xs) zero v (suc j) h = le_refl _
set-least (x ∷ xs) (suc e) v zero h = le_refl _
set-least (x ∷ xs) (suc e) v (suc j) h = set-least xs e v j h

-- nor do stores along a path.
update-least : (f : ℕ → ℕ → ℕ) → ((e x : ℕ) → x ≤ f e x) → (p xs : List ℕ) (j : ℕ) → get_or xs j 0 ≤ get_or (update f p xs) j 0
unfolding update
update-least f h [] xs j = le_refl _
update-least f h (e ∷ p) xs j =
    omega (arith, set-least xs e (f e (get_or xs e 0)) j (h e (get_or xs e 0)), update-least f h p (set xs e (f e (get_or xs e 0))) j)

module _ (net : Network) (q : ℕ) (c : Choice) (s : State) (same : length s.lengths ≡ resources net) where
  abbrev caps : List ℕ
  caps = resource_capacities net

  abbrev path : List ℕ
  path = used_by net c

  -- Where no length is at the mark the lengths are those that have grown.
  unhalved : halves caps q path s.lengths ≡ false → (advance net q c s).lengths ≡ longer caps q (draw caps path) path s.lengths
  unfolding advance grown settled
  unhalved h =
      rw (← (update-length (λ e x. growth q (draw caps path) (get_or caps e 0) x) path s.lengths ∙ same), h) refl

  -- The memory after the iteration: kept, or forgotten where it halved.
  pub memory-next :
      {z : Shape} {l old new : List ℕ} (halved : Bool) → Ends net → net.nodes ≤ most_nodes → z.commodities ≤ most_commodities → z.commodities ≡ commodities net →
      Memory z net s.lengths old → length new ≡ length old → halved ≡ halves caps q path s.lengths → l ≡ (advance net q c s).lengths →
      Kept halved net.nodes old new → Memory z net l new
  memory-next {z} {l} true ends nodes few k M size h e f =
      forgotten-memory ends nodes few k (omega (arith, M.least.among)) (omega (arith, M.places)) (λ t node. (M.pages t node).ordered) (f.forgotten refl) l
  memory-next {z} {l} false ends nodes few k M size h e f =
      rw (f.same refl)
      (known_grown
      (λ j. rw (e ∙ unhalved (sym h))
      (update-least (λ e x. growth q (draw caps path) (get_or caps e 0) x) (λ e x. growth-least q (draw caps path) (get_or caps e 0) x) path s.lengths j))
      M)
