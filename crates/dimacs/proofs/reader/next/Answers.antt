-- `dimacs::reader::next` meets its contract, before the p line and past it.
-- Assumes nothing.
use Rattle.std.proofs.lemmas.Result.{err_from_is_err_and}
use Rattle.dimacs.specs.Reading.{next}
use Rattle.dimacs.proofs.Stages.{held-as, gone_on, gone_wrong}
use Rattle.dimacs.proofs.reader.next.Goals as goal

pub returns-in-None : goal.returns-in-None
unfolding next
returns-in-None c = rw c.in-None.is (c.begin.ensures _ _ _ (held-as c.in-None.is c.requires))

pub returns-in_err-ok_or-in-Some : goal.returns-in_err-ok_or-in-Some
unfolding next
returns-in_err-ok_or-in-Some c = let p = err_from_is_err_and c.from_residual.result c.from_residual.ensures.1 in
    rw (c.in-Some.is, p.1, p.2) (gone_wrong c.args.place _ _ _ _ c.go_on-further.result (c.go_on-further.ensures c.args.place) c.in_err-ok_or-in-Some.ensures.value)

pub returns-in_ok-ok_or-in-Some : goal.returns-in_ok-ok_or-in-Some
unfolding next
returns-in_ok-ok_or-in-Some c =
    rw c.in-Some.is (gone_on c.args.place _ _ _ _ c.go_on-further.result (c.go_on-further.ensures c.args.place) c.in_ok-ok_or-in-Some.ensures.value)
