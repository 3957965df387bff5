-- `dimacs::reader::go_on` meets its contract, for each kind of line.
-- Assumes nothing.
use mathlib.Core.Logic.{⊎_elim}
use native.Mathlib.Omega.{arith}
use Rattle.dimacs.specs.Reading.{following}
use Rattle.dimacs.proofs.Added.{source-added, sink-added, arc-added, source-again, sink-again, arc-too-many}
use Rattle.dimacs.proofs.reader.go_on.Goals as goal

pub returns-in-Comment : goal.returns-in-Comment
unfolding following
returns-in-Comment c = λ i. record { reading = rw c.in-Comment.is; held = c.requires }

pub returns-in-Problem : goal.returns-in-Problem
unfolding following
returns-in-Problem c = λ i. ⊎_elim (λ w. rw w.2) (λ e. rw e) c.in-Problem.is

pub returns-in-Source : goal.returns-in-Source
returns-in-Source c = λ i. source-added i c.in-Source.is _ c.if-is_none.ensures c.requires

pub returns-in-Sink : goal.returns-in-Sink
returns-in-Sink c = λ i. sink-added i c.in-Sink.is _ c.if-is_none-2.ensures c.requires

pub returns-in-Arc : goal.returns-in-Arc
returns-in-Arc c = λ i. arc-added i c.in-Arc.is _ c.requires (omega arith)

pub returns-in-Source-2 : goal.returns-in-Source-2
returns-in-Source-2 c = λ i. source-again i c.in-Source.is _ _ _ _ c.if-is_none.ensures

pub returns-in-Source-2-2 : goal.returns-in-Source-2-2
returns-in-Source-2-2 c = λ i. sink-again i c.in-Sink.is _ _ _ _ c.if-is_none-2.ensures

pub returns-in-Source-2-3 : goal.returns-in-Source-2-3
returns-in-Source-2-3 c = λ i. arc-too-many i c.in-Arc.is _ c.requires (omega arith)
