-- `Keeps` asks for no more than its two inequalities. A definition that asked for more would make
-- the bound on every flow a bound on fewer; it fails here.
-- Assumes nothing.
use mathlib.Core.Path.{◌≡◌}
use mathlib.Core.Bool.{true}
use Prim.Native.Nat.{ℕ, ◌*◌, ◌≤◌, ◌<◌}
use lib.IntN.{ℤ}
use Rattle.network.specs.Flow.{Keeps, sizes_on, use_of}
use Rattle.network.specs.Network.{Network, arcs, capacity, limit, limited}

pub keeping :
    (net : Network) (a d : ℕ) (f : ℕ → ℕ → ℤ) → ((e : ℕ) → e < arcs net → a * sizes_on net f e ≤ d * capacity net e) →
    ((v : ℕ) → v ≤ net.nodes → limited net v ≡ true → a * use_of net f v ≤ d * limit net v) → Keeps net a d f
keeping net a d f within limits = record { within = within; limits = limits }
