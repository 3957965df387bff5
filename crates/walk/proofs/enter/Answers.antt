-- `walk::enter` meets its contract: the index has a resource's number for a limited node, and one past them all for any other.
-- Assumes nothing.
use native.Mathlib.Omega.{arith}
use Rattle.paths.proofs.Collecting.{entered-limited, entered-none}
use Rattle.walk.proofs.enter.Goals as goal

pub returns-then-r-net : goal.returns-then-r-net
returns-then-r-net c =
    let p = c.requires in
    entered-limited _ _ (p.index.places _ p.node) p.place (omega (arith, p.counted, c.if-r-net.true))

pub returns : goal.returns
returns c =
    let p = c.requires in
    entered-none _ _ (p.index.places _ p.node) p.node (omega (arith, p.counted, c.if-r-net.false))
