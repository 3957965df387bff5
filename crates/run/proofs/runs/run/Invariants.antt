-- `run::runs::run` meets its contract: the loop is the definition's, and what is left of m * T falls with each iteration.
-- Assumes nothing.
use Rattle.packed.specs.Packed.{net_in}
use Rattle.memory.specs.Memory.{Memory}
use Rattle.step.specs.Progress.{state_in}
use Rattle.run.specs.Noted.{Noted}
use Rattle.run.proofs.Running.{left, Running}
use Rattle.run.proofs.runs.run.Given as goal

abbrev pub invariant-loop-p : goal.invariant-loop-p
invariant-loop-p l =
    Running (net_in l.net.shape l.net.numbers.now) l.q (state_in l.net.shape l.flow l.tables l.p) ×
    (Noted (net_in l.net.shape l.net.numbers.now) l.q l.threshold (state_in l.net.shape l.flow l.tables l.p).lengths l.p ×
    Memory l.net.shape (net_in l.net.shape l.net.numbers.now) (state_in l.net.shape l.flow l.tables l.p).lengths l.memory)

abbrev pub decreases-loop-p : goal.decreases-loop-p
decreases-loop-p l = left (net_in l.net.shape l.net.numbers.now) l.q (state_in l.net.shape l.flow l.tables l.p)
