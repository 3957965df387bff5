-- `rows::put::Rows::put_number` meets its contract: the digits of x / 10 are put first, and the last digit behind them.
-- Assumes nothing.
use native.Mathlib.Omega.{arith}
use Rattle.rows.proofs.Numbers.{one-digit, last-digit, one-put, last-put}
use Rattle.rows.proofs.Puts.{put-length}
use Rattle.rows.proofs.put.Rows.+put_number.Goals as goal
use Rattle.rows.proofs.put.Rows.+put_number.Goals.{then-x-ge10, else-x-ge10}

pub put_number-requires : goal.put_number-requires
put_number-requires t c = (omega arith, omega (arith, last-digit c.args.x c.if-x-ge10.true c.ranges.x.fits))

pub put-requires : goal.put-requires
put-requires t c =
    elim c.if-x-ge10.branch [
      | then-x-ge10 w ↦
          let p = w.put_number.ensures.rows in
          rw w.self-is (omega (arith, p.next, put-length p, last-digit c.args.x w.if-x-ge10.true c.ranges.x.fits))
      | else-x-ge10 w ↦ rw w.self-is (omega (arith, one-digit c.args.x (omega arith)))
    ]

pub returns-clause-rows : goal.returns-clause-rows
returns-clause-rows t c =
    elim c.if-x-ge10.branch [
      | then-x-ge10 w ↦ last-put c.args.x _ w.if-x-ge10.true c.ranges.x.fits c.digit.ensures w.put_number.ensures.rows (rw w.self-is at c.put.ensures.rows)
      | else-x-ge10 w ↦ one-put c.args.x _ (omega arith) c.digit.ensures (rw w.self-is at c.put.ensures.rows)
    ]
