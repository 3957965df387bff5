-- How long the rows are. Assumes nothing.
use mathlib.Core.List.{List, [], ◌∷◌}
use Prim.Native.Nat.{ℕ, ◌+◌, ◌*◌, ◌≤◌}
use native.Mathlib.Omega.{arith}
use lib.ListN.{length, length-append}
use Rattle.method.specs.declared.Answer.{Answer}
use Rattle.lines.specs.Text.{bytes}
use Rattle.rows.specs.Decimal.{decimal}
use Rattle.rows.specs.Rows.{answer_rows}
use Rattle.rows.specs.Row.{delimited, row}
use Rattle.rows.proofs.Digits.{decimal-short}

-- two numbers, a comma, carriage return and line feed
pub fraction-length : (upper lower : ℕ) → length (delimited (decimal upper) (decimal lower ∷ [])) ≤ 43
unfolding delimited
fraction-length upper lower = simp length-append (omega (arith, decimal-short upper, decimal-short lower))

pub row-length :
    (kind tail head : List ℕ) (upper lower : ℕ) → length (row kind tail head upper lower) ≤ length kind + length tail + length head + 46
unfolding row delimited
row-length kind tail head upper lower = simp length-append (omega (arith, decimal-short upper, decimal-short lower))

-- total, bound and steps
pub answer-length : (a : Answer) → length (answer_rows a) ≤ 159
unfolding answer_rows
answer-length a =
    simp length-append
    (omega (
      arith,
      row-length (bytes "total") [] [] (a.total * a.capacity) a.load,
      row-length (bytes "bound") [] [] a.bound a.alpha,
      row-length (bytes "steps") [] [] a.count a.best,
    ))
