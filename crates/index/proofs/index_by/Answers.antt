-- `index::index_by` meets its contract: the nodes passed are in the index, with all their arcs.
-- Assumes nothing.
use mathlib.Core.Path.{◌≡◌}
use native.Mathlib.Omega.{arith}
use Rattle.index.proofs.Building.{building-all}
use Rattle.index.proofs.index_by.Goals as goal

pub returns : goal.returns
returns c =
    let all : c.loop-v.v ≡ c.args.n = omega arith in
    building-all (rw all at c.loop-v.invariant)
