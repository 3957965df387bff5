-- `page::scan::scan` meets its contract: no node at the places passed is on the list.
-- Assumes nothing.
use Rattle.paths.specs.Scan.{NoneBefore}
use Rattle.page.proofs.scan.scan.Given as goal

abbrev pub invariant-loop-p : goal.invariant-loop-p
invariant-loop-p l = NoneBefore l.page l.listed l.from l.p
