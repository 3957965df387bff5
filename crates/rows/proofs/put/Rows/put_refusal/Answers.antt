-- `rows::rows::Rows::put_refusal` meets its contract. Assumes nothing.
use Rattle.rows.specs.Rows.{refusal_row}
use Rattle.rows.proofs.put.Rows.put_refusal.Goals as goal

pub returns-clause-rows : goal.returns-clause-rows
unfolding refusal_row
returns-clause-rows c = rw c.from-c.ensures at c.put_row.ensures.rows
