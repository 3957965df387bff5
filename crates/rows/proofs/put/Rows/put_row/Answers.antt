-- `rows::rows::Rows::put_row` meets its contract. Assumes nothing.
use Rattle.rows.specs.Row.{delimited, row}
use Rattle.rows.proofs.Puts.{put_next}
use Rattle.rows.proofs.put.Rows.put_row.Goals as goal

pub returns-clause-rows : goal.returns-clause-rows
unfolding row delimited
returns-clause-rows c = put_next c.put.ensures.rows (put_next c.put-2.ensures.rows c.put_fraction.ensures.rows)
