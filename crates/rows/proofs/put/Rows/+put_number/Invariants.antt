-- The digits of x / 10 are put first, and the last digit behind them. The measure is x.
-- Assumes nothing.
use Rattle.rows.proofs.put.Rows.+put_number.Given as goal

abbrev pub decreases-put_number : goal.decreases-put_number
decreases-put_number l = l.x
