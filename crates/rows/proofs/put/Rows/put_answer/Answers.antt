-- `rows::rows::Rows::put_answer` meets its contract: each of its three rows has at most 53 bytes. Assumes nothing.
use native.Mathlib.Omega.{arith}
use Rattle.rows.specs.Rows.{answer_rows}
use Rattle.rows.proofs.Lengths.{row-length}
use Rattle.rows.proofs.Puts.{put-length, put_next, put-within}
use Rattle.rows.proofs.put.Rows.put_answer.Goals as goal

pub put_row-requires-2 : goal.put_row-requires-2
put_row-requires-2 c =
    let p = c.put_row.ensures.rows in
    omega (arith, put-length p, put-within p (row-length _ _ _ _ _))

pub put_row-requires-3 : goal.put_row-requires-3
put_row-requires-3 c =
    let p = c.put_row.ensures.rows in
    let q = c.put_row-2.ensures.rows in
    omega (arith, put-length p, put-length q, put-within p (row-length _ _ _ _ _), put-within q (row-length _ _ _ _ _))

pub returns-clause-rows : goal.returns-clause-rows
unfolding answer_rows
returns-clause-rows c = put_next c.put_row.ensures.rows (put_next c.put_row-2.ensures.rows c.put_row-3.ensures.rows)
