-- The answer. Document 01, "One choice of route".
use Rattle.std.specs.Prelude.{cond, List, [], ◌∷◌, ℕ, zero, suc, ◌+◌, ◌*◌, ◌-◌, ltb, ℤ, pos, get_or, replicate}
use Rattle.std.proofs.Math.Option.{none, some}
use Rattle.network.specs.Network.{Network, arcs, commodities}
use Rattle.network.specs.Resources.{resources, resource_capacities, resource_capacity}
use Rattle.method.specs.declared.Answer.{Answer}
use Rattle.method.specs.Choice.{choice}
use Rattle.method.specs.Iteration.{State, initial}
use Rattle.method.specs.Run.{run}

-- Of the resources 0 to n the lowest-numbered with the greatest load over capacity: b, for n one less than the number of resources. So arcs come
-- first among equals.
unfoldable pub fullest : List ℕ → List ℕ → ℕ → ℕ
fullest capacities loads zero = 0
fullest capacities loads (suc n) =
    let b = fullest capacities loads n in
    cond (ltb (get_or loads b 0 * get_or capacities (suc n) 0) (get_or loads (suc n) 0 * get_or capacities b 0)) (suc n) b

-- The seven numbers of an answer in the order of the answer table: F, c(b), Y(b), the bound's D and alpha, the count of iterations, and which of
-- them gave the bound.
unfoldable pub numbers_of : Answer → List ℕ
numbers_of a = a.total ∷ a.capacity ∷ a.load ∷ a.bound ∷ a.alpha ∷ a.count ∷ a.best ∷ []

-- What an accepted call hands back: the flow, the best lengths and the answer.
pub record Outcome : Type 0 where
  pub flow : List ℤ
  pub lengths : List ℕ
  pub answer : Answer

-- A flow table's amount of commodity i on arc e: the table holds m amounts for each commodity in turn.
unfoldable pub amounts : Network → List ℤ → ℕ → ℕ → ℤ
amounts net table i e = get_or table (i * arcs net + e) (pos 0)

-- Document 01: "unjoined".
unfoldable pub unjoined : Network → Outcome
unjoined net =
    record {
      flow = replicate (commodities net * arcs net) (pos 0);
      lengths = replicate (resources net) 0;
      answer = record { total = 0; capacity = 1; load = 1; bound = 0; alpha = 1; count = 0; best = 0 };
    }

-- The outcome of a run that left the state s.
unfoldable pub outcome_of : Network → State → Outcome
outcome_of net s =
    let b = fullest (resource_capacities net) s.loads (resources net - 1) in
    record {
      flow = s.flow;
      lengths = s.best_lengths;
      answer =
          record {
            total = s.total;
            capacity = resource_capacity net b;
            load = get_or s.loads b 0;
            bound = s.bound;
            alpha = s.alpha;
            count = s.count;
            best = s.best;
          };
    }

-- The outcome for a network at precision q.
unfoldable pub outcome : Network → ℕ → Outcome
outcome net q = elim (choice net (initial net).lengths) [ none ↦ unjoined net | some c ↦ outcome_of net (run net q) ]
