-- Whole totes an hour for each pair. Request C-15.
use Rattle.std.specs.Prelude.{◌≡◌, Bool, List, [], ◌∷◌, ◌++◌, ℕ, zero, suc, ◌*◌, ◌-◌, ◌/◌, ◌%◌, ltb, ℤ}
use Rattle.network.specs.Flow.{outflow, inflow}
use Rattle.network.specs.Network.{Network, commodities, source}
use Rattle.network.specs.Verdict.{afterwards}
use Rattle.numbers.specs.Numbers.{count, written}
use Rattle.decode.specs.Decode.{network_in}
use Rattle.method.specs.Answer.{Outcome, amounts, outcome}
use Rattle.call.specs.Host.{Slices, verdict_in, Hosted}

-- What commodity i carries in the flow f: what leaves its source less what enters it, which is nothing in the solver's table.
unfoldable pub carried : Network → (ℕ → ℕ → ℤ) → ℕ → ℕ
carried net f i = outflow net (f i) (source net i) - inflow net (f i) (source net i)

-- Two numbers for each of the first k amounts in turn: the whole part of x i * c / y, and the remainder over y.
unfoldable pub parted : ℕ → ℕ → (ℕ → ℕ) → ℕ → List ℕ
parted c y x zero = []
parted c y x (suc k) = parted c y x k ++ (x k * c / y ∷ x k * c % y ∷ [])

-- Those of an outcome: each commodity's amount after the scale c(b) / Y(b).
abbrev pub totes_of : Network → Outcome → List ℕ
totes_of net o = parted o.answer.capacity o.answer.load (carried net (amounts net o.flow)) (commodities net)

-- The table has no room for them.
abbrev pub lacks : Network → List ℕ → Bool
lacks net totes = ltb (count totes) (2 * commodities net)

-- The contract of the call: all that a call which solves promises, 5 for a short table of totes among it, and of that table that its first numbers
-- are the outcome's and later bytes as they were; after a refusal all of them are.
pub record Whole (n q office : ℕ) (belts pairs limits : List ℕ) (old new : Slices) (totes totes' : List ℕ) (result : ℕ) : Type 0 where
  pub hosted : Hosted (lacks (network_in n belts pairs limits) totes) n q office belts pairs limits old new result
  pub table :
      let net = network_in n belts pairs limits in
      totes' ≡ afterwards (verdict_in (lacks net totes) net q office old) (written totes (totes_of net (outcome net q))) totes
