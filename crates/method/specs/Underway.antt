-- A run that has not ended.
use Rattle.std.specs.Prelude.{◌≡◌, false, ℕ, ◌≤◌}
use Rattle.network.specs.Network.{Network}
use Rattle.method.specs.Iteration.{State}
use Rattle.method.specs.Run.{ended, nth}

-- s is the state after as many iterations as it has counted, and no load has come to the threshold on the way.
pub record Underway (net : Network) (q : ℕ) (s : State) : Type 0 where
  pub at : s ≡ nth net q s.count
  pub before : (j : ℕ) → j ≤ s.count → ended net q (nth net q j) ≡ false
