-- The words of a list of bytes from its front: blanks there change nothing, and after a word come the words of what follows it.
-- Assumes nothing.
use mathlib.Core.Path.{◌≡◌, refl, ap, ◌∙◌}
use mathlib.Core.Bool.{Bool, true, false, cond, not}
use mathlib.Core.List.{List, [], ◌∷◌}
use Prim.Native.Nat.{ℕ, suc}
use native.Mathlib.Omega.{arith}
use lib.ListN.{get_or, take, drop}
use Rattle.arith.specs.Lists.{keep}
use Rattle.arith.specs.Scan.{until}
use Rattle.lines.specs.Pieces.{blank, filled, pieces, words_of}
use Rattle.lines.proofs.Pieces.{first_piece}

-- a byte of a word
unfoldable pub filling : ℕ → Bool
filling b = not (blank b)

-- s begins with a word, or is empty
abbrev pub AtWord : List ℕ → Type 0
AtWord s = until filling s ≡ 0

-- blanks in front
pub words-skip : (s : List ℕ) → words_of s ≡ words_of (drop (until filling s) s)
unfolding words_of pieces keep filled until filling
words-skip [] = refl
words-skip (b ∷ bs) = by (blank b) refl (words-skip bs)
  where
    by : (t : Bool) → blank b ≡ t → words_of bs ≡ words_of (drop (until filling bs) bs) →
        words_of (b ∷ bs) ≡ words_of (drop (cond (not t) 0 (suc (until filling bs))) (b ∷ bs))
    by true e h = rw e h
    by false e h = refl

-- the blank that ends a word
past-blank : (s : List ℕ) → words_of (drop (suc (until blank s)) s) ≡ words_of (drop (until blank s) s)
unfolding words_of pieces keep filled until
past-blank [] = refl
past-blank (b ∷ bs) = by (blank b) refl (past-blank bs)
  where
    by : (t : Bool) → blank b ≡ t → words_of (drop (suc (until blank bs)) bs) ≡ words_of (drop (until blank bs) bs) →
        words_of (drop (cond t 0 (suc (until blank bs))) bs) ≡ words_of (drop (cond t 0 (suc (until blank bs))) (b ∷ bs))
    by true e h = rw e
    by false e h = h

-- a word in front
word-front : (b : ℕ) (bs : List ℕ) → blank b ≡ false →
    words_of (b ∷ bs) ≡ take (until blank (b ∷ bs)) (b ∷ bs) ∷ words_of (drop (until blank (b ∷ bs)) (b ∷ bs))
unfolding words_of keep filled until
word-front b bs e = ap (keep filled) (first_piece blank (b ∷ bs) (omega arith)) ∙ rw (← (past-blank (b ∷ bs)), e)

starts-filled : (b : ℕ) (bs : List ℕ) → AtWord (b ∷ bs) → blank b ≡ false
unfolding until filling
starts-filled b bs = by (blank b)
  where
    by : (t : Bool) → cond (not t) 0 (suc (until filling bs)) ≡ 0 → t ≡ false
    by true h = absurd (omega arith)
    by false h = refl

pub first_word : (s : List ℕ) → AtWord s → get_or (words_of s) 0 [] ≡ take (until blank s) s
unfolding words_of pieces keep until
first_word [] h = refl
first_word (b ∷ bs) h = rw (word-front b bs (starts-filled b bs h))

pub later-words : (s : List ℕ) → AtWord s → drop 1 (words_of s) ≡ words_of (drop (until blank s) s)
unfolding words_of pieces keep until
later-words [] h = refl
later-words (b ∷ bs) h = rw (word-front b bs (starts-filled b bs h))
