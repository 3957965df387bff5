-- What holds of the outcome of every accepted network: the flow of demand 2, and demand 3.
-- Symbols: F, c(b), Y(b), D, alpha and the count are document 01's, "One choice of route"; B is D over alpha and V is F * c(b) over Y(b).
-- The definition of a flow is source document 000's, section 3.1.
use Rattle.std.specs.Prelude.{◌↔◌, ◌≡◌, true, false, ℕ, ◌+◌, ◌*◌, ◌-◌, ◌≤◌, ◌<◌, ℤ}
use Rattle.length.specs.Level.{threshold}
use Rattle.network.specs.Network.{Network, commodities, source}
use Rattle.network.specs.Flow.{Flow, Keeps, Carries, AtMost, inflow}
use Rattle.network.specs.Path.{Joined}
use Rattle.network.specs.Resources.{resources}
use Rattle.method.specs.Answer.{Outcome, amounts, unjoined}
use Rattle.method.specs.Fits.{Fits}
use Rattle.method.specs.Run.{ended, nth, run}

pub record Guarantee (net : Network) (q : ℕ) (o : Outcome) : Type 0 where
  -- It is the unjoined one exactly where no commodity is joined, by however many arcs.
  pub joins : o ≡ unjoined net ↔ ((i : ℕ) → i < commodities net → Joined net i → ⊥)
  -- The table is a flow, and carries F.
  pub flow : Flow net (amounts net o.flow)
  pub total : Carries net (amounts net o.flow) o.answer.total
  -- Nothing of a commodity enters its own source: what it carries is what leaves it.
  pub sources : (i : ℕ) → i < commodities net → inflow net (amounts net o.flow i) (source net i) ≡ 0
  -- After its scale c(b) / Y(b) it keeps every capacity, and every limit.
  pub keeps : Keeps net o.answer.capacity o.answer.load (amounts net o.flow)
  pub some-load : 0 < o.answer.load
  -- No flow, whole or fractional, that keeps the capacities and the limits carries more than B = D / alpha: d is the common divisor of its amounts.
  pub upper : (d : ℕ) (f : ℕ → ℕ → ℤ) → Flow net f → Keeps net 1 d f → AtMost net f d o.answer.bound o.answer.alpha
  pub some-alpha : 0 < o.answer.alpha
  -- V is at least (1 - 2/q) * B; closer, at least (1 - 7/(4q)) * B; and, sharper than both, at least (8q - 9) / (8q + 5) times B.
  pub near : (q - 2) * (o.answer.bound * o.answer.load) ≤ q * (o.answer.total * o.answer.capacity * o.answer.alpha)
  pub closer : (4 * q - 7) * (o.answer.bound * o.answer.load) ≤ 4 * q * (o.answer.total * o.answer.capacity * o.answer.alpha)
  pub nearer :
      (8 * q - 9) * (o.answer.bound * o.answer.load) ≤ (8 * q + 5) * (o.answer.total * o.answer.capacity * o.answer.alpha)
  -- The run has as many iterations as the answer counts. If any was made, the run ends by its own
  -- rule after the last of them, and after none before.
  pub steps : run net q ≡ nth net q o.answer.count
  pub last : 0 < o.answer.count → ended net q (nth net q o.answer.count) ≡ true
  pub before : (j : ℕ) → j < o.answer.count → ended net q (nth net q j) ≡ false
  -- At most m * T paths were chosen: m counts the resources.
  pub count : o.answer.count ≤ resources net * threshold (resources net) q
  -- Nothing that is handed back is cut.
  pub fits : Fits net o
