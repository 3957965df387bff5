-- The bound of a joined network is the least fraction of all iterations, met first by the one that the answer names.
-- Assumes nothing.
use mathlib.Core.Path.{◌≡◌, refl, sym, ap, ◌∙◌}
use mathlib.Core.Bool.{Bool, true, false, cond}
use mathlib.Core.Logic.{⊎_elim}
use mathlib.Core.List.{List}
use mathlib.Core.Option.{some}
use Prim.Native.Nat.{ℕ, zero, suc, ◌*◌, ◌≤◌, ◌<◌}
use native.Mathlib.Nat.{le_refl, eq-or-lt_of_le, le_of_suc-le-suc, lt_of_mul-lt-mul_left, mul-le-mul_right, mul-lt-mul_of_pos_right}
use native.Mathlib.Omega.{arith}
use borrow.Author.Tests.{ltb-true, ltb-false}
use lib.Dec.{ltb}
use Rattle.network.specs.Network.{Network, commodities}
use Rattle.network.specs.Path.{Joined, path_length}
use Rattle.network.specs.Sound.{Sound}
use Rattle.network.proofs.Sounds.{sound-ends}
use Rattle.method.specs.Answer.{Outcome, outcome_of, outcome}
use Rattle.method.specs.Choice.{Choice, used_by, choice}
use Rattle.method.specs.Iteration.{State, initial, weight, advance}
use Rattle.method.specs.Run.{nth, run}
use Rattle.method.specs.Tightest.{alpha_of, lengths_at, Tightest}
use Rattle.method.proofs.Ends.{iteration-some, next-count, next-valid, run-final, final-count, final-at}
use Rattle.method.proofs.Joining.{joined-choice}
use Rattle.method.proofs.Reached.{Valid, valid-start, chosen_at, chosen-pos}

-- d / a < b / x and b / x ≤ e / y give d / a < e / y, multiplied out
fraction-lt : (d a b x e y : ℕ) → 0 < x → 0 < y → d * x < b * a → b * y ≤ e * x → d * y < e * a
fraction-lt d a b x e y px py h k =
    lt_of_mul-lt-mul_left x (omega (arith, mul-lt-mul_of_pos_right {k = y} h py, mul-le-mul_right a k))

module _ (net : Network) (q : ℕ) where
  abbrev D : ℕ → ℕ
  D j = weight net (lengths_at net q j)

  abbrev A : ℕ → ℕ
  A j = alpha_of net (lengths_at net q j)

  -- Iteration n + 1 met a smaller fraction than any before.
  smaller :
      (o : Outcome) (n : ℕ) → o.answer.best ≡ suc n → o.answer.count ≡ suc n → o.lengths ≡ lengths_at net q n → o.answer.bound ≡ D n →
      o.answer.alpha ≡ A n → ((j : ℕ) → j < n → D n * A j < D j * A n) → Tightest net q o
  smaller o n best count lengths bound alpha less =
      record {
        prior = n;
        best = best;
        made = omega arith;
        lengths = lengths;
        bound = bound;
        alpha = alpha;
        least = λ j l.
            rw (bound, alpha)
            (⊎_elim (λ (e : j ≡ n). rw e (le_refl _)) (λ (b : j < n). omega (arith, less j b)) (eq-or-lt_of_le (le_of_suc-le-suc (rw count at l))));
        first = λ j l. rw (bound, alpha) (less j l);
      }

  -- It did not, so what was kept before it, o, is kept.
  held :
      (o p : Outcome) (n : ℕ) → Tightest net q o → o.answer.count ≡ n → p.answer.best ≡ o.answer.best → p.answer.count ≡ suc n →
      p.lengths ≡ o.lengths → p.answer.bound ≡ o.answer.bound → p.answer.alpha ≡ o.answer.alpha → o.answer.bound * A n ≤ D n * o.answer.alpha →
      Tightest net q p
  held o p n t from best count lengths bound alpha more =
      record {
        prior = t.prior;
        best = best ∙ t.best;
        made = omega (arith, t.made);
        lengths = lengths ∙ t.lengths;
        bound = bound ∙ t.bound;
        alpha = alpha ∙ t.alpha;
        least = λ j l.
            rw (bound, alpha)
            (⊎_elim (λ (e : j ≡ n). rw e more) (λ (b : j < n). t.least j (omega arith)) (eq-or-lt_of_le (le_of_suc-le-suc (rw count at l))));
        first = λ j l. rw (bound, alpha) (t.first j l);
      }

  -- What is kept after n iterations: nothing, with the fraction 1 over 0, or the least.
  data Kept (n : ℕ) : Type 0 where
    nothing : n ≡ 0 → Kept n
    fraction : Tightest net q (outcome_of net (nth net q n)) → Kept n

  module _ (sound : Sound net q) (joined : (l : List ℕ) → (c : Choice) × (choice net l ≡ some c)) where
    valid-nth : (j : ℕ) → Valid net q (nth net q j)
    unfolding nth
    valid-nth zero = valid-start net q sound
    valid-nth (suc j) = next-valid net q sound joined (nth net q j) (valid-nth j)

    count-nth : (j : ℕ) → (nth net q j).count ≡ j
    unfolding nth initial
    count-nth zero = refl
    count-nth (suc j) = next-count net q sound joined (nth net q j) ∙ ap suc (count-nth j)

    alpha-chosen : (l : List ℕ) (c : Choice) → choice net l ≡ some c → alpha_of net l ≡ path_length l (used_by net c)
    unfolding alpha_of
    alpha-chosen l c h = rw (h, alpha_of)

    -- Every route chosen has a length.
    alpha-pos : (j : ℕ) → 0 < A j
    alpha-pos j =
        let s : State = nth net q j in
        let c = joined s.lengths in
        rw (alpha-chosen s.lengths c.0 c.1)
        (chosen-pos net q sound s (valid-nth j) c.0 (chosen_at net q sound s (valid-nth j) c.0 c.1))

    module _ (n : ℕ) where
      abbrev s : State
      s = nth net q n

      abbrev c : Choice
      c = (joined s.lengths).0

      met : A n ≡ path_length s.lengths (used_by net c)
      met = alpha-chosen s.lengths c (joined s.lengths).1

      abbrev next : Outcome
      next = outcome_of net (advance net q c s)

      -- Whether iteration n + 1 met a smaller fraction than was kept.
      abbrev test : Bool
      test = ltb (D n * s.alpha) (s.bound * path_length s.lengths (used_by net c))

      less : test ≡ true → Kept n → (j : ℕ) → j < n → D n * A j < D j * A n
      unfolding outcome_of
      less h (nothing e) j l = absurd (omega arith)
      less h (fraction t) j l =
          fraction-lt (D n) (A n) s.bound s.alpha (D j) (A j) (omega (arith, t.alpha, alpha-pos t.prior)) (alpha-pos j)
          (rw met (ltb-true (D n * s.alpha) (s.bound * path_length s.lengths (used_by net c)) h)) (t.least j (omega (arith, count-nth n)))

      -- The first is smaller than 1 over 0.
      never : n ≡ 0 → test ≡ false → ⊥
      unfolding nth initial
      never e h =
          let unset : (s.bound ≡ 1) × (s.alpha ≡ 0) = rw e (refl, refl) in
          omega (
            arith,
            ltb-false (D n * s.alpha) (s.bound * path_length s.lengths (used_by net c)) h,
            ap (λ x. x * path_length s.lengths (used_by net c)) unset.0,
            ap (λ x. D n * x) unset.1,
            alpha-pos n,
            met,
          )

      step : (b : Bool) → test ≡ b → Kept n → Tightest net q next
      unfolding outcome_of advance
      step true h k =
          smaller next n
          (ap (λ b. cond b (suc s.count) s.best) h ∙ ap suc (count-nth n))
          (ap suc (count-nth n))
          (ap (λ b. cond b s.lengths s.best_lengths) h)
          (ap (λ b. cond b (D n) s.bound) h)
          (ap (λ b. cond b (path_length s.lengths (used_by net c)) s.alpha) h ∙ sym met)
          (less h k)
      step false h (nothing e) = absurd (never e h)
      step false h (fraction t) =
          held (outcome_of net s) next n t (count-nth n)
          (ap (λ b. cond b (suc s.count) s.best) h)
          (ap suc (count-nth n))
          (ap (λ b. cond b s.lengths s.best_lengths) h)
          (ap (λ b. cond b (D n) s.bound) h)
          (ap (λ b. cond b (path_length s.lengths (used_by net c)) s.alpha) h)
          (rw met (ltb-false (D n * s.alpha) (s.bound * path_length s.lengths (used_by net c)) h))

      kept_next : Kept n → Tightest net q (outcome_of net (nth net q (suc n)))
      unfolding nth
      kept_next k = rw (iteration-some net q sound joined s c (joined s.lengths).1) (step test refl k)

    tightest : (n : ℕ) → Tightest net q (outcome_of net (nth net q (suc n)))
    tightest zero = kept_next zero (nothing refl)
    tightest (suc n) = kept_next (suc n) (fraction (tightest n))

  module _ (sound : Sound net q) (i : ℕ) (b : i < commodities net) (j : Joined net i) where
    pub is-tightest : Tightest net q (outcome net q)
    unfolding outcome
    is-tightest =
        let joined : (l : List ℕ) → (c : Choice) × (choice net l ≡ some c) = λ l. joined-choice net (sound-ends net q sound) l i b j in
        let final = run-final net q sound joined in
        let at : run net q ≡ nth net q (suc final.prior.count) =
        final-at net q sound joined (run net q) final ∙ ap (nth net q) (final-count net q sound joined (run net q) final) in
        rw ((joined (initial net).lengths).1, outcome, at) (tightest sound joined final.prior.count)
