-- `search::reset` meets its contract: the entries passed are far, the others as they were.
-- Assumes nothing.
use mathlib.Core.Path.{◌≡◌}
use mathlib.Core.List.{◌++◌}
use lib.ListN.{drop, replicate}
use Rattle.paths.specs.Far.{far}
use Rattle.search.proofs.reset.Given as goal

abbrev pub invariant-loop-v : goal.invariant-loop-v
invariant-loop-v l = l.dist ≡ replicate l.v far ++ drop l.v l.initial.dist
