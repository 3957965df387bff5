-- `index::put` meets its contract: the three stores are the definition's.
-- Assumes nothing.
use mathlib.Core.Path.{refl}
use native.Mathlib.Omega.{arith}
use lib.ListN.{length-set}
use Rattle.index.specs.Indexing.{placed}
use Rattle.index.proofs.put.Goals as goal

pub bounds-ix-p-2 : goal.bounds-ix-p-2
bounds-ix-p-2 c = simp length-set (omega (arith, c.requires))

pub bounds-ix-v-2 : goal.bounds-ix-v-2
bounds-ix-v-2 c = simp length-set (omega (arith, c.requires))

pub returns : goal.returns
unfolding placed
returns c = refl
