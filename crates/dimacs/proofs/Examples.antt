-- Document 01's example file and the rules of the layout at their edges, computed by the definition as rows of one table.
-- Assumes nothing.
use mathlib.Core.Bool.{Bool, true, ◌&&◌}
use mathlib.Core.List.{List, [], ◌∷◌, ◌++◌}
use Prim.Native.Nat.{ℕ}
use Prim.Native.String.{String}
use lib.Dec.{T}
use Rattle.arith.specs.Lists.{keep}
use Rattle.arith.specs.Same.{same}
use Rattle.network.specs.Refusal.{refusal_code}
use Rattle.network.specs.Verdict.{outside}
use Rattle.lines.specs.Meaning.{shaped, given, problem_line, source_or_sink, terminal_line, arc_line, lettered, meaning}
use Rattle.lines.specs.Number.{digit, every, from_digits, number_of}
use Rattle.lines.specs.Pieces.{lead, pieces, line_feed, lines_of, blank, filled, words_of}
use Rattle.lines.specs.Text.{bytes}
use Rattle.dimacs.specs.File.{File, holds, refused, network_read, complete, closing, parsed}
use Rattle.dimacs.specs.Progress.{begun, with_source, with_sink, with_arc}
use Rattle.dimacs.specs.Reading.{opening, once, following, next, read_lines}

-- An outcome in numbers: 0, the nodes, source, sink, tails, heads and capacities; or a refusal's number and place.
answer : File → List ℕ
answer (holds net) = 0 ∷ net.nodes ∷ net.sources ++ net.sinks ++ net.tails ++ net.heads ++ net.capacities
answer (refused r) = (refusal_code r).number ∷ (refusal_code r).place ∷ []

pub record Case : Type 0 where
  pub file : String
  pub gives : List ℕ

abbrev pub case : String → List ℕ → Case
case s xs = record { file = s; gives = xs }

pub right : List Case → Bool
right [] = true
right (c ∷ cs) = same (answer (parsed (bytes c.file))) c.gives && right cs

abbrev pub cases : List Case
cases =
    -- the example
    case "p max 2 2\nn 1 s\nn 2 t\na 1 2 1\na 1 2 1\n" (0 ∷ 2 ∷ 1 ∷ 2 ∷ 1 ∷ 1 ∷ 2 ∷ 2 ∷ 1 ∷ 1 ∷ []) ∷
    -- the last line lacks its line feed; tails, heads and capacities in order; n and a lines mix
    case "p max 3 2\na 1 2 4\nn 3 t\na 2 3 5\nn 1 s" (0 ∷ 3 ∷ 1 ∷ 3 ∷ 1 ∷ 2 ∷ 2 ∷ 3 ∷ 4 ∷ 5 ∷ []) ∷
    -- tabs part words, several blanks part them, and blanks end a line
    case "p\tmax 2  1 \t\nn 1 \ts\nn 2 t\na 1 2 1" (0 ∷ 2 ∷ 1 ∷ 2 ∷ 1 ∷ 2 ∷ 1 ∷ []) ∷
    -- nine digits are a number, ten are none
    case "p max 000000002 1\nn 1 s\nn 2 t\na 1 2 999999999" (0 ∷ 2 ∷ 1 ∷ 2 ∷ 1 ∷ 2 ∷ 999999999 ∷ []) ∷
    case "p max 2 1\nn 1 s\nn 2 t\na 1 2 0000000001" (9 ∷ 4 ∷ []) ∷
    -- a carriage return is no blank
    case "p max 2 1\r\nn 1 s\nn 2 t\na 1 2 1" (9 ∷ 1 ∷ []) ∷
    -- comments anywhere, whatever they hold
    case "c p max\r\n\ncx\n" (9 ∷ 2 ∷ []) ∷
    case "c p max\r\np max 2 1\ncx\nn 1 s\nn 2 t\na 1 2 1\nc" (0 ∷ 2 ∷ 1 ∷ 2 ∷ 1 ∷ 2 ∷ 1 ∷ []) ∷
    -- a second p, s or t line, and one a line too many
    case "p max 2 1\np max 2 1" (9 ∷ 2 ∷ []) ∷
    case "p max 2 1\nn 1 s\nn 2 s" (9 ∷ 3 ∷ []) ∷
    case "p max 2 1\nn 1 t\nn 2 t" (9 ∷ 3 ∷ []) ∷
    case "p max 2 1\na 1 2 1\na 1 2 1" (9 ∷ 3 ∷ []) ∷
    -- an n or an a line before the p line
    case "n 1 s\np max 2 1" (9 ∷ 1 ∷ []) ∷
    case "a 1 2 1\np max 2 1" (9 ∷ 1 ∷ []) ∷
    -- only the end shows it: no t, no s, no a line, no p line, nothing
    case "p max 2 1\nn 1 s\na 1 2 1\n" (9 ∷ 0 ∷ []) ∷
    case "p max 2 1\nn 2 t\na 1 2 1\n" (9 ∷ 0 ∷ []) ∷
    case "p max 2 1\nn 1 s\nn 2 t\n" (9 ∷ 0 ∷ []) ∷
    case "c\n" (9 ∷ 0 ∷ []) ∷
    case "" (9 ∷ 0 ∷ []) ∷
    -- an empty line, a blank in front, another letter, the letter no word of its own
    case "p max 2 1\n\n" (9 ∷ 2 ∷ []) ∷
    case " p max 2 1" (9 ∷ 1 ∷ []) ∷
    case "P max 2 1" (9 ∷ 1 ∷ []) ∷
    case "pmax 2 1" (9 ∷ 1 ∷ []) ∷
    case "pp max 2 1" (9 ∷ 1 ∷ []) ∷
    -- a word missing, a word too many, a sign, another letter for s or t
    case "p max 2" (9 ∷ 1 ∷ []) ∷
    case "p max 2 1 1" (9 ∷ 1 ∷ []) ∷
    case "p max 2 +1" (9 ∷ 1 ∷ []) ∷
    case "p max 2 1\nn 1 st" (9 ∷ 2 ∷ []) ∷
    -- the counts, n before m, and at once; on a faulty p line 9 comes first
    case "p max 64 256" (9 ∷ 0 ∷ []) ∷
    case "p max 65 256\n\n" (1 ∷ 0 ∷ []) ∷
    case "p max 1 0" (1 ∷ 0 ∷ []) ∷
    case "p max 2 257\nx" (2 ∷ 0 ∷ []) ∷
    case "p max 64 0" (2 ∷ 0 ∷ []) ∷
    case "p max 65 0 x" (9 ∷ 1 ∷ []) ∷
    -- a node or a capacity out of bounds is no matter of the layout
    case "p max 2 1\nn 0 s\nn 0 t\na 9 9 0" (0 ∷ 2 ∷ 0 ∷ 0 ∷ 9 ∷ 9 ∷ 0 ∷ []) ∷
    []

pub layout-cases : T (right cases)
unfolding right answer parsed closing complete network_read read_lines next following once opening with_arc with_sink with_source begun outside meaning lettered arc_line terminal_line source_or_sink problem_line given shaped same number_of from_digits every digit words_of filled keep blank lines_of line_feed pieces lead
layout-cases = tt
