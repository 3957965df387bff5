-- What the solver asks, and what it leaves: the outcome of the method, with all that holds of it.
use Rattle.std.specs.Prelude.{◌≡◌, List, ℕ, ◌*◌, ◌-◌, ◌≤◌, ℤ, length, get_or}
use Rattle.bounds.specs.Bounds.{most_arcs}
use Rattle.network.specs.Network.{Network, arcs, commodities}
use Rattle.method.specs.Answer.{fullest, outcome}
use Rattle.method.specs.Guarantee.{Guarantee}
use Rattle.method.specs.declared.Answer.{Answer}
use Rattle.tables.specs.Calls.{Ranking}
use Rattle.step.specs.declared.Progress.{Progress}
use Rattle.packed.specs.Packed.{net_in, Lent, loads_in, table_numbers}
use Rattle.packed.specs.declared.Shape.{Shape}

-- An accepted network, a flow table of just the size that its outcome has, and room for the tables of the resources.
pub record Solving (s : Shape) (q : ℕ) (net : List ℕ) (flow : List ℤ) (tables : List ℕ) : Type 0 where
  pub lent : Lent s q net
  pub flows : length flow ≡ commodities (net_in s net) * arcs (net_in s net)
  pub places : table_numbers ≤ length tables

-- What the answer asks: loads and capacities that can be compared.
pub record Answering (s : Shape) (caps tables : List ℕ) : Type 0 where
  pub few : s.resources ≤ most_arcs
  pub places : table_numbers ≤ length tables
  pub ranking : Ranking (loads_in s tables) caps

-- The answer of a run that left these loads, and these numbers.
abbrev pub answer_of : List ℕ → List ℕ → Progress → Answer
answer_of capacities loads p =
    record {
      total = p.total;
      capacity = get_or capacities (fullest capacities loads (length loads - 1)) 0;
      load = get_or loads (fullest capacities loads (length loads - 1)) 0;
      bound = p.bound;
      alpha = p.alpha;
      count = p.count;
      best = p.best;
    }

-- "unjoined"
abbrev pub no_answer : Answer
no_answer = record { total = 0; capacity = 1; load = 1; bound = 0; alpha = 1; count = 0; best = 0 }

-- The answer and the two tables are the outcome's, and the outcome meets the guarantee.
pub record Solved (net : Network) (q : ℕ) (answer : Answer) (flow : List ℤ) (kept : List ℕ) : Type 0 where
  pub answers : answer ≡ (outcome net q).answer
  pub flows : flow ≡ (outcome net q).flow
  pub lengths : kept ≡ (outcome net q).lengths
  pub guarantee : Guarantee net q (outcome net q)
