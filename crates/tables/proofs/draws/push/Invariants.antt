-- `tables::draws::push` meets its contract: the flow is drawn over the arcs passed, and no amount has grown by more
-- than a draw for each of them. Assumes nothing.
use Rattle.packed.specs.Packed.{net_in}
use Rattle.tables.proofs.Pushed.{Underway}
use Rattle.tables.proofs.draws.push.Given as goal

abbrev pub invariant-loop-e : goal.invariant-loop-e
invariant-loop-e l = Underway (net_in l.net.shape l.net.numbers.now) l.base l.g l.initial.v l.path l.initial.flow l.v l.e-index l.flow
