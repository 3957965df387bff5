-- `dimacs::reader::read` meets its contract: the lines so far, and those that are left, come to what the file comes to.
-- Assumes nothing.
use mathlib.Core.Path.{ap, ◌∙◌}
use native.Mathlib.Omega.{arith}
use Rattle.std.proofs.Common.{rules}
use Rattle.std.proofs.lemmas.Result.{err_from_is_err_and}
use Rattle.lines.specs.Pieces.{line_feed}
use Rattle.dimacs.specs.Result.{result_of}
use Rattle.dimacs.proofs.Cuts.{cut}
use Rattle.dimacs.proofs.LineByLine.{all_read, line_read, none_read, turned_down}
use Rattle.dimacs.proofs.Whole.{read_whole}
use Rattle.dimacs.proofs.reader.read.Goals as goal

pub loop-line-init : goal.loop-line-init
loop-line-init c = rw (c.into_iter-line-iterator.ensures.into_iter_gives, c.split_inclusive-line-items.ensures.rest) (none_read _)

pub returns : goal.returns
returns c = read_whole _ (c.ok_or.ensures.value ∙ c.finish.ensures ∙ ap result_of (all_read _ (omega arith) c.in-None.ensures.steps.0 c.loop-line.invariant))

pub loop-line-preserved : goal.loop-line-preserved
unfolding line_feed
loop-line-preserved c =
    let k =
    cut _ c.loop-line.yielded _ c.loop-line.line-iterator c.next.new.self c.in-Some.line c.strip_suffix.result
    (λ x b q m. search rules)
    c.loop-line.yielded_by
    c.in-Some.ensures.steps
    c.strip_suffix.ensures.cases in
    line_read _ k.0 k.1 c.loop-line.invariant (rw (c.meaning-said.ensures, c.unwrap_or.ensures) at c.in_ok-tally.ensures)

pub returns-in_err-tally : goal.returns-in_err-tally
unfolding line_feed result_of
returns-in_err-tally c =
    let k =
    cut _ c.loop-line.yielded _ c.loop-line.line-iterator c.next.new.self c.in-Some.line c.strip_suffix.result
    (λ x b q m. search rules)
    c.loop-line.yielded_by
    c.in-Some.ensures.steps
    c.strip_suffix.ensures.cases in
    let p = err_from_is_err_and c.from_residual.result c.from_residual.ensures.1 in
    rw (p.1, p.2)
    (read_whole _
    (ap result_of
    (turned_down _ _ (omega arith) k.0 c.loop-line.invariant (rw (c.meaning-said.ensures, c.unwrap_or.ensures) at c.in_err-tally.ensures))))
