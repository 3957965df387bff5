-- A file read line by line: what is left to read, after the lines so far, comes to what the whole file comes to.
-- Assumes nothing.
use mathlib.Core.Path.{◌≡◌, refl, sym, ap, ◌∙◌}
use mathlib.Core.List.{List, [], ◌∷◌}
use Prim.Native.Nat.{ℕ, suc, ◌+◌, ◌≤◌, ◌<◌}
use native.Mathlib.Numerals.{add-one}
use native.Mathlib.Omega.{arith}
use lib.ListN.{length, replicate}
use borrow.Author.Tests.{lt-ltb, le-ltb}
use Rattle.std.specs.Prelude.{Option, None}
use Rattle.network.specs.declared.Refusal.{Refusal}
use Rattle.network.specs.declared.Refusal.TheVariants.{LongFile}
use Rattle.lines.specs.Meaning.{meaning}
use Rattle.lines.specs.Pieces.{lines_of, pieces}
use Rattle.dimacs.specs.File.{closing, refused, parsed}
use Rattle.dimacs.specs.Reading.{Reading, before, down, next, read_lines}
use Rattle.dimacs.specs.Stage.{reading_of, Tidy, Held, Reached}
use Rattle.dimacs.specs.declared.Tally.{Tally}

-- What is left of the text begins with line `place`, and the tally and the tables hold what the lines before it came to.
pub record ReadTo (text left : List ℕ) (place : ℕ) (s : Option Tally) (ts hs cs : List ℕ) : Type 0 where
  pub few : place + length left ≤ length text + 1
  pub goes_on : read_lines place (lines_of left) (reading_of s ts hs cs) ≡ read_lines 1 (lines_of text) before
  pub held : Held s ts hs cs

module _ (text : List ℕ) where
  pub none_read : ReadTo text text 1 None (replicate 256 0) (replicate 256 0) (replicate 256 0)
  none_read = record { few = omega arith; goes_on = refl; held = record { room = tt; tails = clear; heads = clear; capacities = clear } }
    where
      clear : Tidy 0 (replicate 256 0)
      clear = record { size = refl; zeros = refl }

  pub line_read : {left line rest : List ℕ} {place : ℕ} {s r : Option Tally} {ts hs cs us is ds : List ℕ} →
      lines_of left ≡ line ∷ lines_of rest → length rest < length left → ReadTo text left place s ts hs cs →
      Reached (next place (meaning line) (reading_of s ts hs cs)) r us is ds → ReadTo text rest (place + 1) r us is ds
  unfolding read_lines
  line_read {place = place} front shorter t n =
      record { few = omega (arith, t.few); goes_on = rw (n.reading, add-one place) (rw front at t.goes_on); held = n.held }

  stays_down : (i : ℕ) (ls : List (List ℕ)) (why : Refusal) → read_lines i ls (down why) ≡ down why
  unfolding read_lines next
  stays_down i [] why = refl
  stays_down i (l ∷ ls) why = stays_down (suc i) ls why

  fallen : (i : ℕ) (l : List ℕ) (ls : List (List ℕ)) (r : Reading) {why : Refusal} → next i (meaning l) r ≡ down why →
      read_lines i (l ∷ ls) r ≡ down why
  unfolding read_lines
  fallen i l ls r {why = why} e = rw e (stays_down (suc i) ls why)

  -- a line that turns the file down
  pub turned_down : {left line : List ℕ} (rest : List ℕ) {place : ℕ} {s : Option Tally} {ts hs cs : List ℕ} {why : Refusal} →
      length text ≤ 65536 → lines_of left ≡ line ∷ lines_of rest → ReadTo text left place s ts hs cs →
      next place (meaning line) (reading_of s ts hs cs) ≡ down why → refused why ≡ parsed text
  unfolding parsed closing
  turned_down {line = line} rest {place} {s} {ts} {hs} {cs} {why} l front t e =
      let q : read_lines 1 (lines_of text) before ≡ down why =
      sym t.goes_on ∙ ap (λ ls. read_lines place ls (reading_of s ts hs cs)) front ∙ fallen place line (lines_of rest) (reading_of s ts hs cs) e in
      rw (le-ltb 65536 (length text) l, q)

  pub all_read : {left : List ℕ} {place : ℕ} {s : Option Tally} {ts hs cs : List ℕ} → length text ≤ 65536 → length left ≡ 0 →
      ReadTo text left place s ts hs cs → closing (reading_of s ts hs cs) ≡ parsed text
  unfolding parsed read_lines lines_of pieces
  all_read {left = []} l h t = rw (le-ltb 65536 (length text) l) (ap closing t.goes_on)
  all_read {left = b ∷ bs} l h t = absurd (omega arith)

  pub long-file : 65536 < length text → refused LongFile ≡ parsed text
  unfolding parsed
  long-file h = rw (lt-ltb 65536 (length text) h)
