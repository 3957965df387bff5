-- The run: iterations until some resource's load is at the threshold. Document 01, "One choice of route".
use Rattle.std.specs.Prelude.{Bool, true, false, ℕ, zero, suc, ◌*◌, leb, get_or}
use Rattle.arith.specs.Lists.{exists}
use Rattle.length.specs.Level.{threshold}
use Rattle.network.specs.Network.{Network}
use Rattle.network.specs.Resources.{resources, resource_capacity}
use Rattle.method.specs.Iteration.{State, initial, iteration}

-- Some resource's load is at least T times its capacity.
unfoldable pub ended : Network → ℕ → State → Bool
ended net q s = exists (resources net) (λ e. leb (threshold (resources net) q * resource_capacity net e) (get_or s.loads e 0))

-- The state after j iterations, whatever ends the run.
unfoldable pub nth : Network → ℕ → ℕ → State
nth net q zero = initial net
nth net q (suc j) = iteration net q (nth net q j)

-- Iterations from s, ending after the first at which some load is at the threshold, or after as many as the first number says.
unfoldable pub runs : Network → ℕ → ℕ → State → State
runs net q zero s = s
runs net q (suc n) s =
    let t = iteration net q s in
    elim (ended net q t) [ true ↦ t | false ↦ runs net q n t ]

-- The whole run. That m * T iterations are enough, so that it ends by its own rule, is shown, not assumed.
unfoldable pub run : Network → ℕ → State
run net q = runs net q (resources net * threshold (resources net) q) (initial net)
