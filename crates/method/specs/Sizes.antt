-- How large the numbers of a run become: what the words of a program must hold.
use Rattle.std.specs.Prelude.{ℕ, ◌^◌, ◌≤◌, ◌<◌, get_or}
use Rattle.network.specs.Network.{Network}
use Rattle.network.specs.Resources.{resources}
use Rattle.method.specs.Iteration.{State, weight}

-- At a state: lengths from 1 to below the mark, D below 2^58, loads below 2^21, F below 2^29, at most 376,577 iterations, the best of them
-- among them, and the kept fraction's two numbers below 2^58.
pub record Sizes (net : Network) (s : State) : Type 0 where
  pub length-low : (e : ℕ) → e < resources net → 1 ≤ get_or s.lengths e 0
  pub length_high : (e : ℕ) → e < resources net → get_or s.lengths e 0 < 2 ^ 40
  pub weight-high : weight net s.lengths < 2 ^ 58
  pub load-high : (e : ℕ) → e < resources net → get_or s.loads e 0 < 2 ^ 21
  pub total-high : s.total < 2 ^ 29
  pub count-high : s.count ≤ 376577
  pub best-high : s.best ≤ s.count
  pub bound-high : s.bound < 2 ^ 58
  pub alpha-high : s.alpha < 2 ^ 58
