-- `dimacs::reader::finish` meets its contract, for each thing that may be missing.
-- Assumes nothing.
use mathlib.Core.Path.{ap}
use Rattle.dimacs.specs.File.{closing}
use Rattle.dimacs.specs.Result.{result_of}
use Rattle.dimacs.proofs.Closed.{no_source, no-sink, arcs-missing, all_there}
use Rattle.dimacs.proofs.reader.finish.Goals as goal

pub returns-in_err-tally : goal.returns-in_err-tally
unfolding closing result_of
returns-in_err-tally c = rw (c.from_residual.ensures, c.in_err-tally.was)

pub returns-in_err-source : goal.returns-in_err-source
unfolding result_of
returns-in_err-source c = rw c.from_residual-in_err-source.ensures (ap result_of (no_source c.in_ok-tally.was c.requires c.in_err-source.was))

pub returns-in_err-sink : goal.returns-in_err-sink
unfolding result_of
returns-in_err-sink c =
    rw c.from_residual-in_err-sink.ensures (ap result_of (no-sink c.in_ok-tally.was c.requires c.in_ok-source.was c.in_err-sink.was))

pub returns-then-tally : goal.returns-then-tally
unfolding result_of
returns-then-tally c = ap result_of (arcs-missing c.in_ok-tally.was c.requires c.in_ok-source.was c.in_ok-sink.was c.if-tally.true)

pub returns : goal.returns
returns c = all_there c.in_ok-tally.was c.requires c.in_ok-source.was c.in_ok-sink.was c.if-tally.false
