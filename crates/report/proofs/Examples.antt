-- Document 01's example file and its listing byte for byte, and a refusal, computed by the definitions as rows of one table. Assumes nothing.
use mathlib.Core.Bool.{Bool, true, ◌&&◌}
use mathlib.Core.Option.{bind}
use mathlib.Core.List.{List, [], ◌∷◌}
use Prim.Native.String.{String}
use lib.Dec.{T}
use Rattle.arith.specs.Ceiling.{ceil}
use Rattle.arith.specs.Lists.{up_from, up_to, exists, flat, keep}
use Rattle.arith.specs.Same.{same}
use Rattle.arith.specs.Sum.{sum}
use Rattle.length.specs.Length.{scale, mark, start, growth, halving}
use Rattle.length.specs.Level.{level, threshold}
use Rattle.length.specs.Levels.{levels}
use Rattle.signed.specs.Signed.{ahead, back}
use Rattle.network.specs.Flow.{sizes_on}
use Rattle.network.specs.Path.{leads, follow, path_length}
use Rattle.network.specs.Resources.{limits_below, place, resources, resource_capacities, used_at, uses}
use Rattle.network.specs.Verdict.{outside, loose, verdict, size_conditions, arc_conditions, limit_conditions, commodity_conditions, item_conditions, verdict_on}
use Rattle.network.specs.Visited.{visited}
use Rattle.method.specs.Answer.{fullest, amounts, unjoined, outcome_of, outcome}
use Rattle.method.specs.Choice.{words, ends_at, paths, candidates, sooner, least, choice}
use Rattle.method.specs.Iteration.{initial, weight, draw, update, pushed, grown, settled, advance, iteration}
use Rattle.method.specs.Run.{ended, runs, run}
use Rattle.lines.specs.Meaning.{shaped, given, problem_line, source_or_sink, terminal_line, arc_line, lettered, meaning}
use Rattle.lines.specs.Number.{digit, every, from_digits, number_of}
use Rattle.dimacs.specs.File.{network_read, complete, closing, parsed}
use Rattle.lines.specs.Pieces.{lead, pieces, line_feed, lines_of, blank, filled, words_of}
use Rattle.dimacs.specs.Progress.{begun, with_source, with_sink, with_arc}
use Rattle.dimacs.specs.Reading.{opening, once, following, next, read_lines}
use Rattle.lines.specs.Text.{bytes}
use Rattle.rows.specs.Decimal.{digits, decimal}
use Rattle.rows.specs.Row.{delimited, row, header}
use Rattle.rows.specs.Rows.{answer_rows, refusal_row}
use Rattle.report.specs.Listing.{belt_row, outcome_rows, verdict_rows, file_rows, listing}

-- A file, and what the program writes for it.
pub record Case : Type 0 where
  pub file : String
  pub gives : String

abbrev pub case : String → String → Case
case s t = record { file = s; gives = t }

pub right : List Case → Bool
right [] = true
right (c ∷ cs) = same (listing (bytes c.file)) (bytes c.gives) && right cs

abbrev pub cases : List Case
cases =
    -- the example
    case "p max 2 2\nn 1 s\nn 2 t\na 1 2 1\na 1 2 1\n"
    "row,tail,head,upper,lower\r\ntotal,,,31,16\r\nbound,,,137438953472,68719476736\r\nsteps,,,31,1\r\nbelt,1,2,16,16\r\nbelt,1,2,15,16\r\n" ∷
    -- "one belt of 5 at q = 4 gives 4 choices, F = 20, scale 5 over 20"
    case "p max 2 1\nn 1 s\nn 2 t\na 1 2 5"
    "row,tail,head,upper,lower\r\ntotal,,,100,20\r\nbound,,,68719476740,13743895348\r\nsteps,,,4,1\r\nbelt,1,2,100,20\r\n" ∷
    -- no route from s to t
    case "p max 12 1\nn 11 s\nn 12 t\na 12 11 7"
    "row,tail,head,upper,lower\r\ntotal,,,0,1\r\nbound,,,0,1\r\nsteps,,,0,0\r\nbelt,12,11,0,1\r\n" ∷
    -- line 3 breaks the layout; the second belt's capacity; its ends before its capacity; the pair's ends after every belt
    case "p max 2 2\nn 1 s\nn 2  \n" "row,tail,head,upper,lower\r\nrefused,,,9,3\r\n" ∷
    case "p max 2 2\nn 1 s\nn 2 t\na 1 2 1000\na 1 2 1001\n" "row,tail,head,upper,lower\r\nrefused,,,7,2\r\n" ∷
    case "p max 2 2\nn 1 s\nn 2 t\na 1 2 1\na 1 3 0\n" "row,tail,head,upper,lower\r\nrefused,,,6,2\r\n" ∷
    case "p max 2 1\nn 2 s\nn 2 t\na 1 2 1\n" "row,tail,head,upper,lower\r\nrefused,,,8,1\r\n" ∷
    -- too many stations, too many belts, nothing at all
    case "p max 65 1\n" "row,tail,head,upper,lower\r\nrefused,,,1,0\r\n" ∷
    case "p max 2 257\n" "row,tail,head,upper,lower\r\nrefused,,,2,0\r\n" ∷
    case "" "row,tail,head,upper,lower\r\nrefused,,,9,0\r\n" ∷
    []

pub listings : T (right cases)
unfolding
    right same listing file_rows verdict_rows refusal_row outcome_rows belt_row answer_rows header row delimited decimal digits
    parsed closing complete network_read read_lines next following once opening with_arc with_sink with_source begun meaning lettered arc_line
    terminal_line source_or_sink problem_line given shaped number_of from_digits every digit words_of filled keep blank lines_of line_feed pieces lead
    verdict_on item_conditions commodity_conditions limit_conditions arc_conditions size_conditions verdict loose outside sizes_on amounts ceil up_from up_to exists flat sum scale
    mark start growth halving level threshold levels leads follow path_length words ends_at paths candidates sooner least choice initial weight
    draw update pushed grown settled advance iteration ended runs run fullest unjoined outcome_of outcome bind ahead back
    limits_below place resources resource_capacities used_at uses visited
listings = tt
