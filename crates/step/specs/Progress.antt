-- The tables and numbers of a run as the method's state.
use Rattle.std.specs.Prelude.{Bool, false, cond, List, ℕ, ◌+◌, ℤ}
use Rattle.packed.specs.Packed.{lengths_in, loads_in, kept_in}
use Rattle.packed.specs.declared.Shape.{Shape}
use Rattle.method.specs.Iteration.{State, draw}
use Rattle.tables.specs.Tables.{longer, at_mark}
use Rattle.step.specs.declared.Progress.{Progress}

-- The state that the tables and the numbers hold.
abbrev pub state_of : List ℕ → List ℤ → List ℕ → List ℕ → Progress → State
state_of lengths flow loads kept p =
    record {
      lengths = lengths;
      flow = flow;
      loads = loads;
      total = p.total;
      count = p.count;
      bound = p.bound;
      alpha = p.alpha;
      best = p.best;
      best_lengths = kept;
    }

-- The same where the tables of the resources stand in one slice.
abbrev pub state_in : Shape → List ℤ → List ℕ → Progress → State
state_in s flow tables p = state_of (lengths_in s tables) flow (loads_in s tables) (kept_in s tables) p

-- Before the first iteration, where D is d.
abbrev pub begun_with : ℕ → Progress
begun_with d = record { total = 0; count = 0; bound = 1; alpha = 0; best = 0; weight = d; halved = false; ended = false }

-- The same where D does not matter.
abbrev pub begun : Progress
begun = begun_with 0

-- The numbers after an iteration with draw g and fraction D / a, which is better than the least so far or not, that left lengths of weight d.
abbrev pub counted : Progress → ℕ → Bool → ℕ → ℕ → Bool → Bool → Progress
counted p g better a d halved ended =
    record {
      total = p.total + g;
      count = p.count + 1;
      bound = cond better p.weight p.bound;
      alpha = cond better a p.alpha;
      best = cond better (p.count + 1) p.best;
      weight = d;
      halved = halved;
      ended = ended;
    }

-- Some length of l, grown where a path uses it, is at the mark, so that all are halved.
abbrev pub halves : List ℕ → ℕ → List ℕ → List ℕ → Bool
halves capacities q path l = at_mark (longer capacities q (draw capacities path) path l)
