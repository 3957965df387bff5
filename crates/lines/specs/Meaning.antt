-- What one line says. Document 01, "File and listing": "Their first letter decides".
use Rattle.std.specs.Prelude.{Bool, cond, ◌&&◌, List, [], ◌∷◌, ℕ, eqb, length, get_or, Option, Some, None}
use Rattle.arith.specs.Same.{same}
use Rattle.lines.specs.Number.{number_of}
use Rattle.lines.specs.Pieces.{words_of}
use Rattle.lines.specs.Text.{bytes}
use Rattle.lines.specs.declared.Line.{Line}
use Rattle.lines.specs.declared.Line.TheVariants.{Comment, Problem, Source, Sink, Arc, Broken}

-- word i of a line's words, counted from 0; empty where there are fewer
abbrev pub word : List (List ℕ) → ℕ → List ℕ
word ws i = get_or ws i []

-- n words in all, of which the first is the line's letter alone
unfoldable pub shaped : ℕ → List (List ℕ) → Bool
shaped n ws = eqb (length ws) n && eqb (length (word ws 0)) 1

-- what follows from a number where there is one; else the line is broken
unfoldable pub given : Option ℕ → (ℕ → Line) → Line
given None f = Broken
given (Some x) f = f x

-- what follows from the number of a word
abbrev pub given_number : List ℕ → (ℕ → Line) → Line
given_number w f = given (number_of w) f

-- "p max n m": the letter, the word max and two numbers
unfoldable pub problem_line : List (List ℕ) → Line
problem_line ws =
    cond (shaped 4 ws && same (word ws 1) (bytes "max")) (given_number (word ws 2) (λ n. given_number (word ws 3) (λ m. Problem n m))) Broken

-- node v with the word s or t
unfoldable pub source_or_sink : List ℕ → ℕ → Line
source_or_sink w v = cond (same w (bytes "s")) (Source v) (cond (same w (bytes "t")) (Sink v) Broken)

-- an n line, "(station, s or t)"
unfoldable pub terminal_line : List (List ℕ) → Line
terminal_line ws = cond (shaped 3 ws) (given_number (word ws 1) (λ v. source_or_sink (word ws 2) v)) Broken

-- an a line, "(tail, head, capacity)"
unfoldable pub arc_line : List (List ℕ) → Line
arc_line ws = cond (shaped 4 ws) (given_number (word ws 1) (λ u. given_number (word ws 2) (λ v. given_number (word ws 3) (λ c. Arc u v c)))) Broken

-- The first byte decides: c (99), p (112), n (110) or a (97). "Anything else breaks the layout."
unfoldable pub lettered : ℕ → List (List ℕ) → Line
lettered b ws =
    cond (eqb b 99) Comment (cond (eqb b 112) (problem_line ws) (cond (eqb b 110) (terminal_line ws) (cond (eqb b 97) (arc_line ws) Broken)))

-- What a line says. "An empty line breaks the layout"; a comment is one whatever follows its letter.
unfoldable pub meaning : List ℕ → Line
meaning [] = Broken
meaning (b ∷ bs) = lettered b (words_of (b ∷ bs))
