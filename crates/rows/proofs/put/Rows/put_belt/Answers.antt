-- `rows::rows::Rows::put_belt` meets its contract. Assumes nothing.
use native.Mathlib.Omega.{arith}
use Rattle.rows.specs.Row.{delimited, row}
use Rattle.rows.proofs.Digits.{decimal-short}
use Rattle.rows.proofs.Puts.{put-length, put_next}
use Rattle.rows.proofs.put.Rows.put_belt.Goals as goal

pub put_number-requires : goal.put_number-requires
put_number-requires c = omega (arith, decimal-short c.args.tail, c.put.ensures.rows.next, put-length c.put.ensures.rows)

pub put-requires-2 : goal.put-requires-2
put-requires-2 c =
    omega (
      arith,
      decimal-short c.args.tail,
      c.put.ensures.rows.next,
      c.put_number.ensures.rows.next,
      put-length (put_next c.put.ensures.rows c.put_number.ensures.rows),
    )

pub put_number-requires-2 : goal.put_number-requires-2
put_number-requires-2 c =
    omega (
      arith,
      decimal-short c.args.tail,
      decimal-short c.args.head,
      c.put.ensures.rows.next,
      c.put_number.ensures.rows.next,
      c.put-2.ensures.rows.next,
      put-length (put_next c.put.ensures.rows (put_next c.put_number.ensures.rows c.put-2.ensures.rows)),
    )

pub put-requires-3 : goal.put-requires-3
put-requires-3 c =
    omega (
      arith,
      decimal-short c.args.tail,
      decimal-short c.args.head,
      c.put.ensures.rows.next,
      c.put_number.ensures.rows.next,
      c.put-2.ensures.rows.next,
      c.put_number-2.ensures.rows.next,
      put-length (put_next c.put.ensures.rows (put_next c.put_number.ensures.rows (put_next c.put-2.ensures.rows c.put_number-2.ensures.rows))),
    )

pub put_fraction-requires : goal.put_fraction-requires
put_fraction-requires c =
    let p = c.put-3.ensures.rows in
    omega (
      arith,
      decimal-short c.args.tail,
      decimal-short c.args.head,
      c.put.ensures.rows.next,
      c.put_number.ensures.rows.next,
      c.put-2.ensures.rows.next,
      c.put_number-2.ensures.rows.next,
      p.next,
      put-length
          (put_next c.put.ensures.rows (put_next c.put_number.ensures.rows (put_next c.put-2.ensures.rows (put_next c.put_number-2.ensures.rows p)))),
    )

pub returns-clause-rows : goal.returns-clause-rows
unfolding row delimited
returns-clause-rows c =
    put_next c.put.ensures.rows
    (put_next c.put_number.ensures.rows
    (put_next c.put-2.ensures.rows
    (put_next c.put_number-2.ensures.rows (put_next c.put-3.ensures.rows c.put_fraction.ensures.rows))))
