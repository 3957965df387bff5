-- Multicommodity flows in whole amounts: f i e is the amount of commodity i on arc e, from its tail to its head or, if it is negative, the other
-- way. Source document 000, section 3.1: the directed case, and for reversible arcs the undirected one.
-- A flow in fractions is one in whole amounts over a common divisor d.
use Rattle.std.specs.Prelude.{◌≡◌, true, false, cond, ℕ, ◌+◌, ◌*◌, ◌≤◌, ◌<◌, max, eqb, ℤ}
use Rattle.arith.specs.Sum.{sum}
use Rattle.signed.specs.Signed.{ahead, back, size}
use Rattle.network.specs.Network.{Network, arcs, commodities, tail, head, capacity, reversible, limit, limited, source, sink}

-- What the first m arcs have at node v, of the numbers x e: those of the arcs whose end there is v.
unfoldable pub passing : ℕ → (ℕ → ℕ) → (ℕ → ℕ) → ℕ → ℕ
passing m end x v = sum m (λ e. cond (eqb (end e) v) (x e) 0)

-- What leaves node v, of the amounts f e of one commodity: forward on arcs from v, and back on arcs to v.
unfoldable pub outflow : Network → (ℕ → ℤ) → ℕ → ℕ
outflow net f v = passing (arcs net) (tail net) (λ e. ahead (f e)) v + passing (arcs net) (head net) (λ e. back (f e)) v

-- What enters node v.
unfoldable pub inflow : Network → (ℕ → ℤ) → ℕ → ℕ
inflow net f v = passing (arcs net) (head net) (λ e. ahead (f e)) v + passing (arcs net) (tail net) (λ e. back (f e)) v

-- A flow: for each commodity what enters a node leaves it, except at its source and sink; and nothing goes back on an arc that is not reversible.
pub record Flow (net : Network) (f : ℕ → ℕ → ℤ) : Type 0 where
  pub balance :
      (i v : ℕ) → i < commodities net → 1 ≤ v → v ≤ net.nodes → (v ≡ source net i → ⊥) → (v ≡ sink net i → ⊥) → inflow net (f i) v ≡
      outflow net (f i) v
  pub one_way : (i e : ℕ) → i < commodities net → e < arcs net → reversible net e ≡ false → back (f i e) ≡ 0

-- The sizes of all commodities' amounts together on arc e: one capacity holds what goes either way.
unfoldable pub sizes_on : Network → (ℕ → ℕ → ℤ) → ℕ → ℕ
sizes_on net f e = sum (commodities net) (λ i. size (f i e))

-- All commodities' use of node v together: for each the larger of what it brings in and what it takes out. Request C-17.
unfoldable pub use_of : Network → (ℕ → ℕ → ℤ) → ℕ → ℕ
use_of net f v = sum (commodities net) (λ i. max (inflow net (f i) v) (outflow net (f i) v))

-- The flow times a over d keeps the capacities and the limits, said without division.
pub record Keeps (net : Network) (a d : ℕ) (f : ℕ → ℕ → ℤ) : Type 0 where
  pub within : (e : ℕ) → e < arcs net → a * sizes_on net f e ≤ d * capacity net e
  pub limits : (v : ℕ) → v ≤ net.nodes → limited net v ≡ true → a * use_of net f v ≤ d * limit net v

-- What leaves the sources, each commodity's own amount at its own source.
unfoldable pub leaving : Network → (ℕ → ℕ → ℤ) → ℕ
leaving net f = sum (commodities net) (λ i. outflow net (f i) (source net i))

-- What enters them.
unfoldable pub entering : Network → (ℕ → ℕ → ℤ) → ℕ
entering net f = sum (commodities net) (λ i. inflow net (f i) (source net i))

-- The flow carries the total x: what leaves the sources less what enters them, said without subtraction.
abbrev pub Carries : Network → (ℕ → ℕ → ℤ) → ℕ → Type 0
Carries net f x = leaving net f ≡ x + entering net f

-- The flow over its divisor d carries at most bound / alpha: its total times alpha is at most bound times d. The total may be negative.
abbrev pub AtMost : Network → (ℕ → ℕ → ℤ) → ℕ → ℕ → ℕ → Type 0
AtMost net f d bound alpha = leaving net f * alpha ≤ bound * d + entering net f * alpha
