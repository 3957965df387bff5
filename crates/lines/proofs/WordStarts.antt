-- Where the words of a line start, one after the other.
-- Assumes nothing.
use mathlib.Core.Path.{◌≡◌, sym, ap, ◌∙◌}
use mathlib.Core.List.{List, []}
use Prim.Native.Nat.{ℕ, ◌+◌, ◌-◌, ◌≤◌}
use native.Mathlib.Nat.{add-zero, zero-add}
use native.Mathlib.Omega.{arith}
use lib.ListN.{length, get_or, take, drop}
use lib.Seq.{drop-drop, get_or-drop}
use Rattle.arith.specs.Scan.{until, scan}
use Rattle.arith.proofs.Until.{scan-within}
use Rattle.lines.specs.Pieces.{blank, words_of}
use Rattle.lines.proofs.Pieces.{until-again}
use Rattle.lines.proofs.WordFront.{filling, AtWord, words-skip, first_word, later-words}

-- Place at is where word k of the line starts, or its end where there are no more.
pub record WordStart (line : List ℕ) (k at : ℕ) : Type 0 where
  pub within : at ≤ length line
  pub starts : AtWord (drop at line)
  pub words : drop k (words_of line) ≡ words_of (drop at line)

module _ (line : List ℕ) where
  pub first-start : WordStart line 0 (scan filling line 0)
  first-start =
      rw zero-add
      record { within = rw zero-add at (scan-within filling line 0 (omega arith)); starts = until-again filling line; words = words-skip line }

  pub word-there : (k at : ℕ) → WordStart line k at → take (scan blank line at - at) (drop at line) ≡ get_or (words_of line) k []
  word-there k at w =
      let e : scan blank line at - at ≡ until blank (drop at line) = omega arith in
      sym (sym (rw add-zero at (get_or-drop k (words_of line) 0 [])) ∙ rw (w.words, e) (first_word (drop at line) w.starts))

  pub next_start : (k at : ℕ) → WordStart line k at → WordStart line (k + 1) (scan filling line (scan blank line at))
  next_start k at w =
      let e = scan blank line at in
      let g = until filling (drop e line) in
      record {
        within = scan-within filling line e (scan-within blank line at w.within);
        starts = rw (← (drop-drop g e line)) (until-again filling (drop e line));
        words =
            sym (drop-drop 1 k (words_of line)) ∙
            ap (drop 1) w.words ∙
            later-words (drop at line) w.starts ∙
            ap words_of (drop-drop (until blank (drop at line)) at line) ∙
            words-skip (drop e line) ∙
            ap words_of (drop-drop g e line);
      }
