-- Weak duality: potentials for each commodity bound what every flow carries, by the capacities times the lengths of all resources over alpha.
-- docs/GUARANTEE.md, "The argument", step 8. Assumes nothing.
use mathlib.Core.Path.{◌≡◌, refl, ap, ◌∙◌}
use mathlib.Core.Bool.{Bool, true, false, cond}
use mathlib.Core.Logic.{◌⊎◌, inl, inr}
use mathlib.Core.Option.{some}
use Prim.Native.Nat.{ℕ, suc, ◌+◌, ◌*◌, ◌≤◌, ◌<◌, max}
use native.Mathlib.Nat.{le_of_suc-le-suc, mul-le-mul_left}
use native.Mathlib.Omega.{arith}
use lib.IntN.{ℤ}
use Rattle.arith.specs.Sum.{sum}
use Rattle.arith.proofs.Sums.{sum-cong, sum-add, sum-scale, sum-le, sum-exchange, sum_first}
use Rattle.signed.specs.Signed.{back, size}
use Rattle.network.specs.Network.{Network, arcs, commodities, tail, head, capacity, reversible, limit, limited, source, sink}
use Rattle.network.specs.Ends.{Ends}
use Rattle.network.specs.Flow.{Flow, Keeps, AtMost, outflow, inflow, sizes_on, use_of, leaving, entering}
use Rattle.network.specs.Path.{leads}
use Rattle.network.specs.Resources.{place, resources, resource_capacity}
use Rattle.network.proofs.Leads.{against, taken-leads}
use Rattle.network.proofs.Potential.{Potential, Balanced}
use Rattle.network.proofs.OneCommodity.{potential-bound}
use Rattle.network.proofs.Resources.{resource-capacity-arc, resource-capacity-node, sum-resources}

-- All commodities together use no more length than d times the capacities have.
pub use-bound :
    (k m d : ℕ) (f : ℕ → ℕ → ℕ) (c l : ℕ → ℕ) → ((e : ℕ) → e < m → l e * sum k (λ i. f i e) ≤ l e * (d * c e)) → sum k (λ i. sum m (λ e. f i e * l e)) ≤
    d * sum m (λ e. c e * l e)
use-bound k m d f c l within =
    omega (
      arith,
      sum-exchange k m (λ i e. f i e * l e),
      sum-le m (λ e. sum k (λ i. f i e * l e)) (λ e. d * (c e * l e)) each,
      sum-scale m d (λ e. c e * l e),
    )
  where
    each : (e : ℕ) → e < m → sum k (λ i. f i e * l e) ≤ d * (c e * l e)
    each e b =
        omega (
          arith,
          sum-cong k (λ i. f i e * l e) (λ i. l e * f i e) (λ i a. omega arith),
          sum-scale k (l e) (λ i. f i e),
          within e b,
        )

-- No flow, over any divisor, carries more than bound / alpha.
abbrev pub Bounds : Network → ℕ → ℕ → Type 0
Bounds net bound alpha = (d : ℕ) (f : ℕ → ℕ → ℤ) → Flow net f → Keeps net 1 d f → AtMost net f d bound alpha

-- The lengths of the nodes, by those of the resources.
abbrev pub node_lengths : Network → (ℕ → ℕ) → ℕ → ℕ
node_lengths net l v = cond (limited net v) (l (place net v)) 0

-- D: the capacities times the lengths of all resources, of arcs and of nodes.
weight-parts : (net : Network) (l : ℕ → ℕ) →
    sum (resources net) (λ r. resource_capacity net r * l r) ≡
    sum (arcs net) (λ e. capacity net e * l e) + sum net.nodes (λ i. limit net (suc i) * node_lengths net l (suc i))
weight-parts net l =
    sum-resources net (λ r. resource_capacity net r * l r) ∙
    omega (
      arith,
      sum-cong (arcs net) (λ e. resource_capacity net e * l e) (λ e. capacity net e * l e) (λ e b. ap (λ c. c * l e) (resource-capacity-arc net e b)),
      sum-cong (suc net.nodes) (λ v. cond (limited net v) (resource_capacity net (place net v) * l (place net v)) 0) (λ v. limit net v * node_lengths net l v)
          (λ v b. at v b (limited net v) refl),
      sum_first net.nodes (λ v. limit net v * node_lengths net l v),
    )
  where
    at : (v : ℕ) → v < suc net.nodes → (b : Bool) → limited net v ≡ b →
        cond b (resource_capacity net (place net v) * l (place net v)) 0 ≡ limit net v * cond b (l (place net v)) 0
    at v b true h = ap (λ c. c * l (place net v)) (resource-capacity-node net v (le_of_suc-le-suc b) h)
    at v b false h = omega arith

module _ (net : Network) (ends : Ends net) (l : ℕ → ℕ) (alpha : ℕ) where
  -- What commodity i uses of the lengths of the arcs, and of the nodes, by the amounts f
  used : (ℕ → ℕ → ℤ) → ℕ → ℕ
  used f i = sum (arcs net) (λ e. size (f i e) * l e)

  passed : (ℕ → ℕ → ℤ) → ℕ → ℕ
  passed f i = sum net.nodes (λ v. max (inflow net (f i) (suc v)) (outflow net (f i) (suc v)) * node_lengths net l (suc v))

  -- One commodity's amounts of a flow are balanced.
  one-balanced : (f : ℕ → ℕ → ℤ) → Flow net f → (i : ℕ) → i < commodities net → Balanced net (f i) (source net i) (sink net i)
  one-balanced f flow i b =
      record {
        nodes = λ v low high ns nt. flow.balance i v b low high ns nt;
        backs = λ e l. by-mark e l (reversible net e) refl;
      }
    where
      by-mark : (e : ℕ) → e < arcs net → (r : Bool) → reversible net e ≡ r → (back (f i e) ≡ 0) ⊎ (leads net (head net e) e ≡ some (tail net e))
      by-mark e l true m = inr (taken-leads net l (against m refl refl))
      by-mark e l false m = inl (flow.one_way i e b l m)

  -- A node without a limit has no length, and the use of one with a limit is within it.
  within-limit : (d : ℕ) (f : ℕ → ℕ → ℤ) → Keeps net 1 d f → (v : ℕ) → v ≤ net.nodes →
      node_lengths net l v * use_of net f v ≤ node_lengths net l v * (d * limit net v)
  within-limit d f keeps v b = by-test (limited net v) refl
    where
      by-test : (t : Bool) → limited net v ≡ t → cond t (l (place net v)) 0 * use_of net f v ≤ cond t (l (place net v)) 0 * (d * limit net v)
      by-test true h = omega (arith, mul-le-mul_left (l (place net v)) (keeps.limits v b h))
      by-test false h = omega arith

  -- Potentials that fall from alpha at the sources to 0 at the sinks: the capacities times the lengths, over alpha, bound every flow.
  pub duality :
      (pi rho : ℕ → ℕ → ℕ) → ((i : ℕ) → i < commodities net → Potential net l (node_lengths net l) (source net i) (sink net i) alpha (pi i) (rho i)) →
      Bounds net (sum (resources net) (λ r. resource_capacity net r * l r)) alpha
  unfolding leaving entering sizes_on use_of used passed
  duality pi rho pot d f flow keeps =
      omega (
        arith,
        sum-scale (commodities net) alpha (λ i. outflow net (f i) (source net i)),
        sum-scale (commodities net) alpha (λ i. inflow net (f i) (source net i)),
        sum-add (commodities net) (used f) (λ i. passed f i + alpha * inflow net (f i) (source net i)),
        sum-add (commodities net) (passed f) (λ i. alpha * inflow net (f i) (source net i)),
        sum-le
            (commodities net)
            (λ i. alpha * outflow net (f i) (source net i))
            (λ i. used f i + (passed f i + alpha * inflow net (f i) (source net i)))
            (λ i b. potential-bound net ends (f i) l (node_lengths net l) (pi i) (rho i) (source net i) (sink net i) alpha (ends.sources i b) (pot i b)
            (one-balanced f flow i b)),
        use-bound (commodities net) (arcs net) d (λ i e. size (f i e)) (capacity net) l (λ e b. omega (arith, mul-le-mul_left (l e) (keeps.within e b))),
        use-bound (commodities net) net.nodes d (λ i v. max (inflow net (f i) (suc v)) (outflow net (f i) (suc v))) (λ v. limit net (suc v))
            (λ v. node_lengths net l (suc v)) (λ v b. within-limit d f keeps (suc v) b),
        weight-parts net l,
        ap (λ x. d * x) (weight-parts net l),
      )
