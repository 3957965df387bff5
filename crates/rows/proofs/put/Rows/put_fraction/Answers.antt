-- `rows::rows::Rows::put_fraction` meets its contract. Assumes nothing.
use native.Mathlib.Omega.{arith}
use Rattle.rows.specs.Row.{delimited}
use Rattle.rows.proofs.Digits.{decimal-short}
use Rattle.rows.proofs.Puts.{put_next, put-length}
use Rattle.rows.proofs.put.Rows.put_fraction.Goals as goal

pub put_number-requires : goal.put_number-requires
put_number-requires c = omega (arith, decimal-short c.args.upper)

pub put-requires : goal.put-requires
put-requires c = omega (arith, decimal-short c.args.upper, c.put_number.ensures.rows.next, put-length c.put_number.ensures.rows)

pub put_number-requires-2 : goal.put_number-requires-2
put_number-requires-2 c =
    let p = put_next c.put_number.ensures.rows c.put.ensures.rows in
    omega (arith, decimal-short c.args.upper, decimal-short c.args.lower, c.put_number.ensures.rows.next, c.put.ensures.rows.next, put-length p)

pub put-requires-2 : goal.put-requires-2
put-requires-2 c =
    let p = put_next c.put_number.ensures.rows (put_next c.put.ensures.rows c.put_number-2.ensures.rows) in
    omega (arith, decimal-short c.args.upper, decimal-short c.args.lower, c.put_number.ensures.rows.next, c.put.ensures.rows.next, c.put_number-2.ensures.rows.next, put-length p)

pub returns-clause-rows : goal.returns-clause-rows
unfolding delimited
returns-clause-rows c =
    put_next c.put_number.ensures.rows (put_next c.put.ensures.rows (put_next c.put_number-2.ensures.rows c.put-2.ensures.rows))
