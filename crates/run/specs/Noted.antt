-- What the run notes beside the method's state, and what an iteration leaves.
use Rattle.std.specs.Prelude.{◌≡◌, Bool, true, false, List, ℕ}
use Rattle.length.specs.Level.{threshold}
use Rattle.network.specs.Network.{Network}
use Rattle.network.specs.Resources.{resources}
use Rattle.packed.specs.declared.Shape.{Shape}
use Rattle.method.specs.Iteration.{State, weight, iteration}
use Rattle.method.specs.Run.{ended}
use Rattle.method.specs.Underway.{Underway}
use Rattle.memory.specs.Forgotten.{Forgotten}
use Rattle.memory.specs.Memory.{Memory}
use Rattle.step.specs.declared.Progress.{Progress}
use Rattle.run.specs.Runs.{Chooses}

-- What is noted beside the state: T, and D of the lengths.
pub record Noted (net : Network) (q t : ℕ) (lengths : List ℕ) (p : Progress) : Type 0 where
  pub threshold : t ≡ threshold (resources net) q
  pub weight : p.weight ≡ weight net lengths

-- What an iteration leaves: the method's next state, D of the new lengths, and whether the run ends with it.
pub record Iterated (net : Network) (q : ℕ) (old new : State) (r : Progress) : Type 0 where
  pub state : new ≡ iteration net q old
  pub weight : r.weight ≡ weight net new.lengths
  pub ended : r.ended ≡ ended net q (iteration net q old)

-- The memory is as it was, or, where the lengths were halved, forgotten.
pub record Kept (halved : Bool) (n : ℕ) (old new : List ℕ) : Type 0 where
  pub same : halved ≡ false → new ≡ old
  pub forgotten : halved ≡ true → Forgotten n old new

-- What an iteration asks of the run so far.
pub record Iterating (s : Shape) (net : Network) (q t : ℕ) (memory : List ℕ) (old : State) (p : Progress) : Type 0 where
  pub memory-of : Memory s net old.lengths memory
  pub chooses : Chooses net
  pub underway : Underway net q old
  pub noted : Noted net q t old.lengths p

-- And all that it leaves, the memory among it.
pub record Onward (s : Shape) (net : Network) (q : ℕ) (old new : State) (memory : List ℕ) (r : Progress) : Type 0 where
  pub iterated : Iterated net q old new r
  pub memory-of : Memory s net new.lengths memory
