-- The run ends by its own rule: each iteration draws the whole capacity of some arc, so the loads cannot all stay below the threshold.
-- Assumes nothing.
use mathlib.Core.Path.{◌≡◌, refl, sym, ap, ◌∙◌}
use mathlib.Core.Bool.{Bool, true, false}
use mathlib.Core.Logic.{⊎_elim}
use mathlib.Core.List.{List}
use mathlib.Core.Option.{some}
use Prim.Native.Nat.{ℕ, zero, suc, ◌+◌, ◌*◌, ◌-◌, ◌≤◌, ◌<◌}
use native.Mathlib.Nat.{le_refl, eq-or-lt_of_le}
use native.Mathlib.Omega.{arith}
use borrow.Author.Tests.{leb-true}
use lib.Dec.{leb}
use lib.ListN.{get_or}
use Rattle.arith.proofs.Exists.{exists-true}
use Rattle.length.specs.Level.{level, threshold}
use Rattle.network.specs.Network.{Network}
use Rattle.network.specs.Resources.{resources, resource_capacity}
use Rattle.network.specs.Sound.{Sound}
use Rattle.packing.proofs.Count.{count-below}
use Rattle.method.specs.Choice.{Choice, choice}
use Rattle.method.specs.Iteration.{State, initial, advance, iteration}
use Rattle.method.specs.Run.{ended, nth, runs, run}
use Rattle.method.specs.Sizes.{Sizes}
use Rattle.method.specs.Underway.{Underway}
use Rattle.method.proofs.Instance.{seen}
use Rattle.method.proofs.Programs.{program}
use Rattle.method.proofs.Sized.{enough, reached-sizes, next-sizes}
use Rattle.method.proofs.Reached.{Valid, Reached, valid-step, reached-start, not-ended}

-- An iteration from a state that was reached, at whose end some load is at the threshold.
pub record Final (net : Network) (q : ℕ) (t : State) : Type 0 where
  pub prior : State
  pub reached : Reached net q prior
  pub choosing : Choice
  pub chosen : choice net prior.lengths ≡ some choosing
  pub is : t ≡ advance net q choosing prior
  pub full : ended net q t ≡ true
  pub underway : Underway net q prior

module _ (net : Network) (q : ℕ) (sound : Sound net q) (joined : (l : List ℕ) → (c : Choice) × (choice net l ≡ some c)) where
  pub iteration-some : (s : State) (c : Choice) → choice net s.lengths ≡ some c → iteration net q s ≡ advance net q c s
  unfolding iteration
  iteration-some s c h = rw (h, iteration) refl

  -- Below the threshold the run has not ended.
  open-ended : (s : State) → Reached net q s → ended net q s ≡ false
  unfolding ended threshold seen
  open-ended s r = by-test (ended net q s) refl
    where
      by-test : (t : Bool) → ended net q s ≡ t → t ≡ false
      by-test false h = refl
      by-test true h =
          let w = exists-true (resources net) (λ e. leb (q * level (resources net) q * resource_capacity net e) (get_or s.loads e 0)) h in
          absurd
          (omega (
            arith,
            leb-true (q * level (resources net) q * resource_capacity net w.0) (get_or s.loads w.0 0) w.2,
            r.below w.0 w.1,
          ))

  -- The next state's count, and its place among the states.
  pub next-count : (s : State) → (iteration net q s).count ≡ suc s.count
  unfolding advance
  next-count s = let c = joined s.lengths in ap (λ t. t.count) (iteration-some s c.0 c.1)

  next-at : (s : State) → s ≡ nth net q s.count → iteration net q s ≡ nth net q (iteration net q s).count
  unfolding nth
  next-at s at = ap (iteration net q) at ∙ ap (nth net q) (sym (next-count s))

  pub next-valid : (s : State) → Valid net q s → Valid net q (iteration net q s)
  next-valid s v =
      let c = joined s.lengths in
      rw (iteration-some s c.0 c.1) (valid-step net q sound s v c.0 c.1)

  pub underway-next : (s : State) → Underway net q s → ended net q (iteration net q s) ≡ false → Underway net q (iteration net q s)
  underway-next s u h =
      record {
        at = next-at s u.at;
        before = λ j l.
            ⊎_elim
            (λ (e : j ≡ (iteration net q s).count). rw (e, ← (next-at s u.at)) h)
            (λ (b : j < (iteration net q s).count). u.before j (omega (arith, next-count s)))
            (eq-or-lt_of_le l);
      }

  ends :
      (n : ℕ) (s : State) → Reached net q s → Underway net q s → resources net * (q * level (resources net) q - 1) < s.count + n →
      Final net q (runs net q n s)
  unfolding runs seen
  ends zero s r u h = absurd (omega (arith, count-below (program net q sound) r.valid.run r.below))
  ends (suc n) s r u h = by-test (ended net q t) refl (ends n t)
    where
      t : State
      t = iteration net q s

      by-test :
          (b : Bool) → ended net q t ≡ b →
          (Reached net q t → Underway net q t → resources net * (q * level (resources net) q - 1) < t.count + n → Final net q (runs net q n t)) → Final net q (elim b [ true ↦ t | false ↦ runs net q n t ])
      by-test true e rest =
          let c = joined s.lengths in
          record {
            prior = s;
            reached = r;
            choosing = c.0;
            chosen = c.1;
            is = iteration-some s c.0 c.1;
            full = e;
            underway = u;
          }
      by-test false e rest =
          rest
          (record { valid = next-valid s r.valid; below = not-ended net q sound t e })
          (underway-next s u e)
          (omega (arith, next-count s))

  -- A state before which the run has not ended is reached.
  reached-nth : (j : ℕ) → ((i : ℕ) → i ≤ j → ended net q (nth net q i) ≡ false) → Reached net q (nth net q j)
  unfolding nth
  reached-nth zero h = reached-start net q sound
  reached-nth (suc j) h =
      record {
        valid = next-valid (nth net q j) (reached-nth j (λ i l. h i (omega arith))).valid;
        below = not-ended net q sound (iteration net q (nth net q j)) (h (suc j) (le_refl (suc j)));
      }

  -- A run under way has reached its state.
  pub underway-reached : (s : State) → Underway net q s → Reached net q s
  underway-reached s u = rw u.at (reached-nth s.count u.before)

  pub underway-start : Underway net q (initial net)
  unfolding initial nth
  underway-start =
      record {
        at = refl;
        before = λ j l. let z : j ≡ 0 = omega arith in rw z (open-ended (initial net) (reached-start net q sound));
      }

  start-enough : resources net * (q * level (resources net) q - 1) < (initial net).count + resources net * (q * level (resources net) q)
  unfolding initial
  start-enough = enough net q sound

  -- The whole run ends so.
  pub run-final : Final net q (run net q)
  unfolding run threshold
  run-final = ends (resources net * (q * level (resources net) q)) (initial net) (reached-start net q sound) underway-start start-enough

  pub final-count : (t : State) (f : Final net q t) → t.count ≡ suc f.prior.count
  unfolding advance
  final-count t f = ap (λ t. t.count) f.is

  -- It is the state after as many iterations as it counts.
  pub final-at : (t : State) (f : Final net q t) → t ≡ nth net q t.count
  unfolding nth
  final-at t f =
      f.is ∙
      (sym (iteration-some f.prior f.choosing f.chosen) ∙ (ap (iteration net q) f.underway.at ∙ ap (nth net q) (sym (final-count t f))))

  -- Before it no load was at the threshold.
  pub final-before : (t : State) (f : Final net q t) (j : ℕ) → j < t.count → ended net q (nth net q j) ≡ false
  final-before t f j l = f.underway.before j (omega (arith, final-count t f))

  -- It comes after at most m * (T - 1) + 1 iterations, so the number m * T with which the run is defined never ends it.
  pub final-few : (t : State) (f : Final net q t) → t.count ≤ resources net * (threshold (resources net) q - 1) + 1
  unfolding seen threshold
  final-few t f =
      omega (
        arith,
        final-count t f,
        count-below (program net q sound) f.reached.valid.run f.reached.below,
      )

  -- Every state of the run is of the sizes that a program's words hold.
  pub run-sizes : (j : ℕ) → j ≤ (run net q).count → Sizes net (nth net q j)
  unfolding nth
  run-sizes zero l = reached-sizes net q sound (initial net) (reached-start net q sound)
  run-sizes (suc j) l =
      let s : State = nth net q j in
      let c = joined s.lengths in
      let r = reached-nth j (λ i b. final-before (run net q) run-final i (omega arith)) in
      rw (iteration-some s c.0 c.1) (next-sizes net q sound s r c.0 c.1)

  -- ... the last one too.
  pub final-sizes : Sizes net (run net q)
  final-sizes = rw (final-at (run net q) run-final) (run-sizes (run net q).count (le_refl (run net q).count))
