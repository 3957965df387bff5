-- `report::solved::show_in` meets its contract: the outcome is solved and its rows put. Assumes nothing.
use mathlib.Core.Path.{◌∙◌}
use native.Mathlib.Omega.{arith}
use Rattle.packed.specs.Packed.{net_in}
use Rattle.rows.proofs.Lengths.{answer-length}
use Rattle.rows.proofs.Puts.{put-length, put-within}
use Rattle.report.proofs.Showing.{one-row, total-small, belted, shown}
use Rattle.report.proofs.solved.show_in.Goals as goal

pub solve-a-requires : goal.solve-a-requires
solve-a-requires c =
    record { lent = c.requires.ready.lent; flows = one-row c.requires.ready _ c.requires.flows; places = c.requires.places }

pub put_answer-requires : goal.put_answer-requires
put_answer-requires c = (total-small c.requires.ready c.solve-a.ensures, omega (arith, c.requires.ready.enough))

pub put_belts-requires : goal.put_belts-requires
unfolding net_in
put_belts-requires c =
    let v = c.solve-a in
    let p = c.put_answer.ensures.rows in
    rw (put-length p)
    (belted c.requires.ready v.ensures _ (v.auto.flow ∙ c.requires.flows) (put-within p (answer-length _)))

pub returns-clause-shown : goal.returns-clause-shown
unfolding net_in
returns-clause-shown c = shown c.requires.ready c.solve-a.ensures c.put_answer.ensures.rows c.put_belts.ensures.rows
