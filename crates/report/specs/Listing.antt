-- What the program writes for a file. Document 01, "File and listing"; its belt is here an arc.
use Rattle.std.specs.Prelude.{List, [], ◌++◌, ℕ, ◌*◌}
use Rattle.arith.specs.Lists.{up_to, flat}
use Rattle.network.specs.Flow.{sizes_on}
use Rattle.network.specs.Network.{Network, arcs, tail, head}
use Rattle.network.specs.Verdict.{verdict_on}
use Rattle.network.specs.Refusal.{Verdict, Accepted, Refused}
use Rattle.method.specs.Answer.{Outcome, amounts, outcome}
use Rattle.dimacs.specs.File.{File, holds, refused, parsed}
use Rattle.lines.specs.Text.{bytes}
use Rattle.rows.specs.Decimal.{decimal}
use Rattle.rows.specs.Row.{row, header}
use Rattle.rows.specs.Rows.{answer_rows, refusal_row}

-- "a belt Y × c(b) over Y(b)", with its tail and head: arc e, whose load Y is that of the flow table over all commodities.
unfoldable pub belt_row : Network → Outcome → ℕ → List ℕ
belt_row net o e =
    row (bytes "belt") (decimal (tail net e)) (decimal (head net e)) (sizes_on net (amounts net o.flow) e * o.answer.capacity)
    o.answer.load

-- "Header, total, bound and steps come first, then the belts in order."
unfoldable pub outcome_rows : Network → Outcome → List ℕ
outcome_rows net o = answer_rows o.answer ++ flat (belt_row net o) (up_to (arcs net))

-- The verdict on a network that a file holds: the program "takes q = 4", has room enough, and counts nothing between files.
abbrev pub verdict_held : Network → Verdict
verdict_held net = verdict_on net 4 []

-- what follows from the verdict
unfoldable pub verdict_rows : Network → Verdict → List ℕ
verdict_rows net Accepted = outcome_rows net (outcome net 4)
verdict_rows net (Refused r) = refusal_row r

-- what follows from the file
unfoldable pub file_rows : File → List ℕ
file_rows (holds net) = verdict_rows net (verdict_held net)
file_rows (refused r) = refusal_row r

-- The bytes written for a file of these bytes.
unfoldable pub listing : List ℕ → List ℕ
listing text = header ++ file_rows (parsed text)
