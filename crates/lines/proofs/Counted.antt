-- How many words a line has, by which of them are empty.
-- Assumes nothing.
use mathlib.Core.Path.{◌≡◌, refl}
use mathlib.Core.Bool.{Bool, true, false, ◌&&◌}
use mathlib.Core.List.{List, [], ◌∷◌}
use Prim.Native.Nat.{ℕ, zero, suc, ◌-◌, ◌≤◌, ◌<◌}
use native.Mathlib.Omega.{arith}
use lib.Dec.{ltb, eqb}
use lib.ListN.{length}
use borrow.Author.Tests.{eq-eqb, ne_eqb, ltb-true, ltb-false}
use Rattle.arith.specs.Lists.{keep}
use Rattle.lines.specs.Meaning.{word, shaped}
use Rattle.lines.specs.Pieces.{filled, pieces, blank, words_of}

-- a list of lists that are not empty
data Filled : List (List ℕ) → Type 0 where
  none : Filled []
  more : {x : ℕ} {w : List ℕ} {ws : List (List ℕ)} → Filled ws → Filled ((x ∷ w) ∷ ws)

kept : (ws : List (List ℕ)) → Filled (keep filled ws)
unfolding keep filled
kept [] = none
kept ([] ∷ ws) = kept ws
kept ((x ∷ w) ∷ ws) = more (kept ws)

there : {ws : List (List ℕ)} → Filled ws → (i : ℕ) → i < length ws → 0 < length (word ws i)
there none i h = absurd (omega arith)
there (more f) zero h = omega arith
there (more f) (suc i) h = there f i (omega arith)

past : (ws : List (List ℕ)) (i : ℕ) → length ws ≤ i → length (word ws i) ≡ 0
past [] i h = refl
past (w ∷ ws) zero h = absurd (omega arith)
past (w ∷ ws) (suc i) h = past ws i (omega arith)

not_none : {x : ℕ} → 0 < x → x ≡ 0 → ⊥
not_none h e = omega arith

module _ (line : List ℕ) (n : ℕ) where
  -- the first word is longer than a letter
  pub not-alone : (length (word (words_of line) 0) ≡ 1 → ⊥) → false ≡ shaped n (words_of line)
  unfolding shaped
  not-alone h = rw (ne_eqb _ 1 h) (by (eqb (length (words_of line)) n))
    where
      by : (t : Bool) → false ≡ t && false
      by true = refl
      by false = refl

  -- the last word that is wanted is not there
  pub too_few : 0 < n → length (word (words_of line) (n - 1)) ≡ 0 → false ≡ shaped n (words_of line)
  unfolding shaped words_of
  too_few h z =
      rw (ne_eqb (length (words_of line)) n (λ e. not_none (there (kept (pieces blank line)) (n - 1) (omega arith)) z))

  -- it is there: the line has its words where no further one is
  pub counted : length (word (words_of line) 0) ≡ 1 → (length (word (words_of line) (n - 1)) ≡ 0 → ⊥) →
      eqb (length (word (words_of line) n)) 0 ≡ shaped n (words_of line)
  unfolding shaped words_of
  counted one h = rw (eq-eqb _ 1 one) (by (ltb (n - 1) (length (words_of line))) refl (ltb n (length (words_of line))) refl)
    where
      by : (s : Bool) → ltb (n - 1) (length (words_of line)) ≡ s → (t : Bool) → ltb n (length (words_of line)) ≡ t →
          eqb (length (word (words_of line) n)) 0 ≡ eqb (length (words_of line)) n && true
      by false d t e = absurd (h (past (words_of line) (n - 1) (ltb-false _ _ d)))
      by true d true e =
          let l = ltb-true n _ e in
          rw (ne_eqb (length (word (words_of line) n)) 0 (not_none (there (kept (pieces blank line)) n l)), ne_eqb (length (words_of line)) n (omega arith))
      by true d false e =
          let m : length (words_of line) ≡ n = omega (arith, ltb-true, ltb-false) in
          rw (eq-eqb _ 0 (past (words_of line) n (ltb-false _ _ e)), eq-eqb (length (words_of line)) n m)

-- for a search
pub ruleset word_counts = (not-alone, too_few, counted)
