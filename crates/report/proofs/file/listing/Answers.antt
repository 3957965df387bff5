-- `report::file::listing` meets its contract: the header, and the rows that follow from the file. Assumes nothing.
use mathlib.Core.Path.{ap}
use native.Mathlib.Omega.{arith}
use lib.ListN.{length}
use Rattle.rows.specs.Row.{delimited, header}
use Rattle.rows.proofs.Puts.{put-length}
use Rattle.report.proofs.Written.{listed}
use Rattle.report.proofs.file.listing.Goals as goal
use Rattle.report.proofs.file.listing.Goals.{in-Err, in_default}

pub file_rows-requires : goal.file_rows-requires
file_rows-requires c = omega (arith, c.put.ensures.rows.next, put-length c.put.ensures.rows)

pub put_refusal-requires : goal.put_refusal-requires
put_refusal-requires c =
    let r = c.in-Err.ensures.filed.rows in
    omega (arith, c.put.ensures.rows.next, put-length c.put.ensures.rows, ap length r.0, r.1)

pub returns : goal.returns
unfolding delimited header
returns c =
    elim c.match-file_rows.branch [
      | in-Err w ↦
          let r = w.in-Err.ensures.filed.rows in
          rw w.rows-is (listed _ c.put.ensures.rows (rw (r.2, ← r.0, ← r.1) w.put_refusal.ensures.rows) c.file_rows.ensures.filed.guarantee)
      | in_default w ↦ rw w.rows-is (listed _ c.put.ensures.rows w.in_default.ensures.filed.rows c.file_rows.ensures.filed.guarantee)
    ]
