-- `solver::outcomes::answer` meets its contract: the fullest resource gives the scale. Assumes nothing.
use mathlib.Core.Path.{refl}
use native.Mathlib.Omega.{arith}
use Rattle.solver.proofs.outcomes.answer.Goals as goal

pub fullest-b-requires : goal.fullest-b-requires
fullest-b-requires c = c.requires.ranking

pub bounds-capacities-b : goal.bounds-capacities-b
bounds-capacities-b c = omega (arith, c.fullest-b.ensures.1, c.requires.ranking.same)

pub returns : goal.returns
returns c = rw (← c.fullest-b.ensures.0) refl
