-- Potentials bound what one commodity carries: weak duality for one source and one sink, with no path decomposition.
-- docs/GUARANTEE.md, "The argument", steps 8 and 10. Assumes nothing.
use mathlib.Core.Path.{◌≡◌, refl, sym, ap, ◌∙◌}
use mathlib.Core.Bool.{Bool, true, false, cond}
use mathlib.Core.Logic.{⊎_elim}
use mathlib.Core.Option.{some}
use Prim.Native.Nat.{ℕ, suc, ◌+◌, ◌*◌, ◌≤◌, ◌<◌, max}
use native.Mathlib.Nat.{mul-le-mul_left}
use native.Mathlib.Omega.{arith}
use borrow.Author.Tests.{eqb-true, eqb-false}
use lib.Dec.{eqb}
use lib.IntN.{ℤ}
use Rattle.arith.specs.Sum.{sum}
use Rattle.arith.proofs.Sums.{sum-cong, sum-add, sum-le}
use Rattle.arith.proofs.Regroup.{sum-pick, sum-regroup}
use Rattle.signed.specs.Signed.{ahead, back, size}
use Rattle.network.specs.Network.{Network, arcs, tail, head}
use Rattle.network.specs.Ends.{Node, Ends}
use Rattle.network.specs.Flow.{passing, outflow, inflow}
use Rattle.network.specs.Path.{leads}
use Rattle.network.proofs.Leads.{some-leads}
use Rattle.network.proofs.Potential.{Potential, Balanced}

module _ (net : Network) (ends : Ends net) (pi : ℕ → ℕ) where
  -- Numbers x of the arcs, each times the potential at one end.
  weighed : (ℕ → ℕ) → (ℕ → ℕ) → ℕ
  weighed x end = sum (arcs net) (λ e. x e * pi (end e))

  -- Those forward at one end and those back at the other, node by node
  by-node : (x y there here : ℕ → ℕ) → ((e : ℕ) → e < arcs net → Node net (there e)) → ((e : ℕ) → e < arcs net → Node net (here e)) →
      weighed x there + weighed y here ≡
      sum net.nodes (λ i. pi (suc i) * (passing (arcs net) there x (suc i) + passing (arcs net) here y (suc i)))
  unfolding weighed passing
  by-node x y there here a b =
      omega (
        arith,
        sum-regroup (arcs net) net.nodes there x pi (λ e l. (a e l).0) (λ e l. (a e l).1),
        sum-regroup (arcs net) net.nodes here y pi (λ e l. (b e l).0) (λ e l. (b e l).1),
        sum-add net.nodes (λ i. pi (suc i) * passing (arcs net) there x (suc i)) (λ i. pi (suc i) * passing (arcs net) here y (suc i)),
        sum-cong
            net.nodes
            (λ i. pi (suc i) * (passing (arcs net) there x (suc i) + passing (arcs net) here y (suc i)))
            (λ i. pi (suc i) * passing (arcs net) there x (suc i) + pi (suc i) * passing (arcs net) here y (suc i))
            (λ i b. omega arith),
      )

module _ (net : Network) (ends : Ends net) (f : ℕ → ℤ) (l w pi rho : ℕ → ℕ) (s t alpha : ℕ) (node : Node net s)
    (pot : Potential net l w s t alpha pi rho) (bal : Balanced net f s t) where
  -- what goes forward on arc e, and what goes back
  abbrev x : ℕ → ℕ
  x e = ahead (f e)

  abbrev y : ℕ → ℕ
  y e = back (f e)

  -- the use of node v
  abbrev through : ℕ → ℕ
  through v = max (inflow net f v) (outflow net f v)

  -- Along an arc, forward and back, the potential falls by no more than the length.
  on-arc : (e : ℕ) → e < arcs net →
      x e * rho (tail net e) + y e * rho (head net e) ≤ size (f e) * l e + (x e * pi (head net e) + y e * pi (tail net e))
  on-arc e b =
      omega (
        arith,
        mul-le-mul_left (x e) (pot.along (tail net e) e (head net e) (some-leads net (tail net e) e b refl)),
        ⊎_elim
            (λ (z : y e ≡ 0). rw z (omega arith))
            (λ (h : leads net (head net e) e ≡ some (tail net e)). mul-le-mul_left (y e) (pot.along (head net e) e (tail net e) h))
            (bal.backs e b),
      )

  fall :
      weighed net ends rho x (tail net) + weighed net ends rho y (head net) ≤
      sum (arcs net) (λ e. size (f e) * l e) + (weighed net ends pi x (head net) + weighed net ends pi y (tail net))
  unfolding weighed
  fall =
      omega (
        arith,
        sum-le
            (arcs net)
            (λ e. x e * rho (tail net e) + y e * rho (head net e))
            (λ e. size (f e) * l e + (x e * pi (head net e) + y e * pi (tail net e)))
            on-arc,
        sum-add (arcs net) (λ e. x e * rho (tail net e)) (λ e. y e * rho (head net e)),
        sum-add (arcs net) (λ e. size (f e) * l e) (λ e. x e * pi (head net e) + y e * pi (tail net e)),
        sum-add (arcs net) (λ e. x e * pi (head net e)) (λ e. y e * pi (tail net e)),
      )

  -- Through a node the potential falls by no more than its length: what balances there passes it, what ends at t or begins at s uses it as much.
  at-node :
      (v : ℕ) (b c : Bool) → eqb s v ≡ b → eqb t v ≡ c → pi v ≤ w v + rho v → ((v ≡ s → ⊥) → (v ≡ t → ⊥) → inflow net f v ≡ outflow net f v) →
      pi v * inflow net f v + cond b (alpha * outflow net f v) 0 ≤
      through v * w v + (rho v * outflow net f v + cond b (alpha * inflow net f v) 0)
  at-node v true c p q fall h =
      let e : pi v ≡ alpha = ap pi (sym (eqb-true s v p)) ∙ pot.top in
      let leave : outflow net f v ≤ through v = omega arith in
      omega (arith, ap (λ z. z * inflow net f v) e, ap (λ z. z * outflow net f v) e, mul-le-mul_left (outflow net f v) fall, mul-le-mul_left (w v) leave)
  at-node v false true p q fall h =
      let e : rho v ≡ 0 = ap rho (sym (eqb-true t v q)) ∙ pot.bottom in
      let enter : inflow net f v ≤ through v = omega arith in
      omega (arith, ap (λ z. inflow net f v * z) e, mul-le-mul_left (inflow net f v) fall, mul-le-mul_left (w v) enter)
  at-node v false false p q fall h =
      let e : inflow net f v ≡ outflow net f v = h (λ r. eqb-false s v p (sym r)) (λ r. eqb-false t v q (sym r)) in
      let enter : inflow net f v ≤ through v = omega arith in
      omega (arith, ap (λ z. rho v * z) e, mul-le-mul_left (inflow net f v) fall, mul-le-mul_left (w v) enter)

  -- What leaves the nodes and what enters them, each times its potential
  leaves : weighed net ends rho x (tail net) + weighed net ends rho y (head net) ≡ sum net.nodes (λ i. rho (suc i) * outflow net f (suc i))
  unfolding outflow
  leaves = by-node net ends rho x y (tail net) (head net) ends.tails ends.heads

  enters : weighed net ends pi x (head net) + weighed net ends pi y (tail net) ≡ sum net.nodes (λ i. pi (suc i) * inflow net f (suc i))
  unfolding inflow
  enters = by-node net ends pi x y (head net) (tail net) ends.heads ends.tails

  -- alpha times what leaves the source is at most the lengths used, of arcs and of nodes, and alpha times what enters it.
  pub potential-bound :
      alpha * outflow net f s ≤
      sum (arcs net) (λ e. size (f e) * l e) + (sum net.nodes (λ i. through (suc i) * w (suc i)) + alpha * inflow net f s)
  potential-bound =
      omega (
        arith,
        fall,
        leaves,
        enters,
        sum-add net.nodes (λ i. pi (suc i) * inflow net f (suc i)) (λ i. cond (eqb s (suc i)) (alpha * outflow net f (suc i)) 0),
        sum-add net.nodes (λ i. through (suc i) * w (suc i))
            (λ i. rho (suc i) * outflow net f (suc i) + cond (eqb s (suc i)) (alpha * inflow net f (suc i)) 0),
        sum-add net.nodes (λ i. rho (suc i) * outflow net f (suc i)) (λ i. cond (eqb s (suc i)) (alpha * inflow net f (suc i)) 0),
        sum-pick net.nodes s (λ v. alpha * inflow net f v) node.0 node.1,
        sum-pick net.nodes s (λ v. alpha * outflow net f v) node.0 node.1,
        sum-le
            net.nodes
            (λ i. pi (suc i) * inflow net f (suc i) + cond (eqb s (suc i)) (alpha * outflow net f (suc i)) 0)
            (λ i. through (suc i) * w (suc i) + (rho (suc i) * outflow net f (suc i) + cond (eqb s (suc i)) (alpha * inflow net f (suc i)) 0))
            (λ i b. at-node (suc i) (eqb s (suc i)) (eqb t (suc i)) refl refl (pot.through (suc i) (omega arith) b) (bal.nodes (suc i) (omega arith) b)),
      )
