-- The rows of an answer and of a refusal. Document 01, "File and listing"; its choice is here an iteration.
use Rattle.std.specs.Prelude.{List, [], ◌++◌, ℕ, ◌*◌}
use Rattle.network.specs.Refusal.{refusal_code}
use Rattle.network.specs.declared.Refusal.{Refusal}
use Rattle.method.specs.declared.Answer.{Answer}
use Rattle.lines.specs.Text.{bytes}
use Rattle.rows.specs.Row.{row}

-- "The total is F × c(b) over Y(b), the bound D over alpha"; "the steps row holds the count of choices and which choice gave the bound".
unfoldable pub answer_rows : Answer → List ℕ
answer_rows a =
    row (bytes "total") [] [] (a.total * a.capacity) a.load ++
    (row (bytes "bound") [] [] a.bound a.alpha ++
    row (bytes "steps") [] [] a.count a.best)

-- "A refusal is the header and refused,,,number,place."
unfoldable pub refusal_row : Refusal → List ℕ
refusal_row r = row (bytes "refused") [] [] (refusal_code r).number (refusal_code r).place
