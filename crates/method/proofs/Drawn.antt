-- A draw of g along a path of commodity i leaves a flow a flow, adds g to its total, adds no more than g to the sizes on its arcs and the uses of its
-- nodes, and brings nothing into the sources, each commodity's own into its own.
-- Assumes nothing.
use mathlib.Core.Path.{◌≡◌, refl, ap, ◌∙◌}
use mathlib.Core.Bool.{Bool, true, false}
use mathlib.Core.List.{List, [], ◌∷◌}
use mathlib.Core.Option.{some-injective}
use Prim.Native.Nat.{ℕ, ◌+◌, ◌*◌, ◌≤◌, ◌<◌, max}
use native.Mathlib.Nat.{le_of_eq, mul-le-mul_right}
use native.Mathlib.Omega.{arith}
use borrow.Author.Tests.{eqb-true, eqb-false}
use lib.Dec.{eqb}
use lib.IntN.{ℤ}
use lib.ListN.{length, length-set}
use Rattle.arith.specs.Times.{times}
use Rattle.arith.proofs.Sums.{sum-cong, sum-swap}
use Rattle.signed.specs.Signed.{ahead, back}
use Rattle.network.specs.Network.{Network, arcs, commodities, tail, head, reversible, source, sink}
use Rattle.network.specs.Path.{Path, beyond, follow}
use Rattle.network.specs.Flow.{Flow, Carries, passing, outflow, inflow, sizes_on, use_of, leaving, entering}
use Rattle.network.specs.Visited.{visited}
use Rattle.network.proofs.Leads.{leads-beyond}
use Rattle.network.proofs.Paths.{path-step}
use Rattle.method.specs.Iteration.{crossed, pushed}
use Rattle.method.specs.Answer.{amounts}
use Rattle.method.proofs.Crossed.{crossed-other, crossed-balance, crossed-sizes, crossed-grows, crossed-one-way}
use Rattle.method.proofs.Times.{once, once-same, once-other}

-- Equal amounts on all arcs leave and enter a node alike.
module _ (net : Network) (f h : ℕ → ℤ) (same : (a : ℕ) → a < arcs net → h a ≡ f a) (v : ℕ) where
  at_same : (part : ℤ → ℕ) (end : ℕ → ℕ) → passing (arcs net) end (λ a. part (h a)) v ≡ passing (arcs net) end (λ a. part (f a)) v
  unfolding passing
  at_same part end = sum-cong (arcs net) _ _ (λ a b. rw (same a b))

  pub out-same : outflow net h v ≡ outflow net f v
  unfolding outflow
  out-same = omega (arith, at_same ahead (tail net), at_same back (head net))

  pub in-same : inflow net h v ≡ inflow net f v
  unfolding inflow
  in-same = omega (arith, at_same ahead (head net), at_same back (tail net))

module _ (net : Network) (i g : ℕ) (listed : i < commodities net) where
  -- The table after the draw from v along p.
  abbrev drawn : ℕ → List ℕ → List ℤ → List ℤ
  drawn v p flow = pushed net (i * arcs net) g v p flow

  abbrev Sized : List ℤ → Type 0
  Sized flow = length flow ≡ commodities net * arcs net

  abbrev over : ℕ → ℕ → List ℤ → List ℤ
  over v e flow = crossed net (i * arcs net) g v e flow

  over_sized : (v e : ℕ) (flow : List ℤ) → Sized flow → Sized (over v e flow)
  over_sized v e flow sized = length-set flow (i * arcs net + e) _ ∙ sized

  pub drawn-sized : (v : ℕ) (p : List ℕ) (flow : List ℤ) → Sized flow → Sized (drawn v p flow)
  unfolding pushed
  drawn-sized v [] flow sized = sized
  drawn-sized v (e ∷ p) flow sized = drawn-sized (beyond net v e) p (over v e flow) (over_sized v e flow sized)

  -- Other commodities' amounts stay.
  drawn-other : (v t : ℕ) (p : List ℕ) (flow : List ℤ) → Path net v t p → Sized flow → (j a : ℕ) → a < arcs net → (j ≡ i → ⊥) →
      amounts net (drawn v p flow) j a ≡ amounts net flow j a
  unfolding pushed
  drawn-other v t [] flow path sized j a b other = refl
  drawn-other v t (e ∷ p) flow path sized j a b other =
      let s = path-step net v t e p path in
      rw (leads-beyond net v e s.0 s.1)
      (drawn-other s.0 t p (over v e flow) s.2 (over_sized v e flow sized) j a b other ∙
      crossed-other net i g listed flow sized v e s.0 s.1 j a b (λ r. other r.0))

  -- What leaves a node less what enters it is more by g at the path's start, and less by g at its end.
  drawn-balance : (v t : ℕ) (p : List ℕ) (flow : List ℤ) → Path net v t p → Sized flow → (u : ℕ) →
      outflow net (amounts net (drawn v p flow) i) u + inflow net (amounts net flow i) u + once u t * g ≡
      outflow net (amounts net flow i) u + inflow net (amounts net (drawn v p flow) i) u + once u v * g
  unfolding pushed follow
  drawn-balance v t [] flow path sized u = rw (some-injective v t path) refl
  drawn-balance v t (e ∷ p) flow path sized u =
      let s = path-step net v t e p path in
      rw (leads-beyond net v e s.0 s.1)
      (omega (
        arith,
        drawn-balance s.0 t p (over v e flow) s.2 (over_sized v e flow sized) u,
        crossed-balance net i g listed flow sized v e s.0 s.1 u,
      ))

  -- On an arc that is not reversible nothing goes back where nothing did.
  drawn-one-way : (v t : ℕ) (p : List ℕ) (flow : List ℤ) → Path net v t p → Sized flow → (j a : ℕ) → a < arcs net →
      reversible net a ≡ false → back (amounts net flow j a) ≡ 0 → back (amounts net (drawn v p flow) j a) ≡ 0
  unfolding pushed
  drawn-one-way v t [] flow path sized j a b one z = z
  drawn-one-way v t (e ∷ p) flow path sized j a b one z =
      let s = path-step net v t e p path in
      rw (leads-beyond net v e s.0 s.1)
      (drawn-one-way s.0 t p (over v e flow) s.2 (over_sized v e flow sized) j a b one
      (crossed-one-way net i g listed flow sized v e s.0 s.1 j a b one z))

  -- The sizes of the amounts on an arc grow together by no more than the draw over it.
  pub drawn-sizes : (v t : ℕ) (p : List ℕ) (flow : List ℤ) → Path net v t p → Sized flow → (a : ℕ) → a < arcs net →
      sizes_on net (amounts net (drawn v p flow)) a ≤ sizes_on net (amounts net flow) a + times a p * g
  unfolding pushed times
  drawn-sizes v t [] flow path sized a b = omega arith
  drawn-sizes v t (e ∷ p) flow path sized a b =
      let s = path-step net v t e p path in
      rw (leads-beyond net v e s.0 s.1)
      (omega (
        arith,
        drawn-sizes s.0 t p (over v e flow) s.2 (over_sized v e flow sized) a b,
        crossed-sizes net i g listed flow sized v e s.0 s.1 a b,
      ))

  -- What leaves a node, and what enters it, grows by no more than the draw where the node is visited.
  drawn-out : (v t : ℕ) (p : List ℕ) (flow : List ℤ) → Path net v t p → Sized flow → (u : ℕ) →
      outflow net (amounts net (drawn v p flow) i) u ≤ outflow net (amounts net flow i) u + times u (visited net v p) * g
  unfolding pushed visited times
  drawn-out v t [] flow path sized u = omega arith
  drawn-out v t (e ∷ p) flow path sized u =
      let s = path-step net v t e p path in
      rw (leads-beyond net v e s.0 s.1, s.1)
      (omega (
        arith,
        drawn-out s.0 t p (over v e flow) s.2 (over_sized v e flow sized) u,
        (crossed-grows net i g listed flow sized v e s.0 s.1 u).0,
      ))

  -- At its start nothing of it enters.
  drawn-in : (v t : ℕ) (p : List ℕ) (flow : List ℤ) → Path net v t p → Sized flow → (u : ℕ) →
      inflow net (amounts net (drawn v p flow) i) u + once u v * g ≤ inflow net (amounts net flow i) u + times u (visited net v p) * g
  unfolding pushed visited times
  drawn-in v t [] flow path sized u = omega arith
  drawn-in v t (e ∷ p) flow path sized u =
      let s = path-step net v t e p path in
      rw (leads-beyond net v e s.0 s.1, s.1)
      (omega (
        arith,
        drawn-in s.0 t p (over v e flow) s.2 (over_sized v e flow sized) u,
        (crossed-grows net i g listed flow sized v e s.0 s.1 u).1,
      ))

  module _ (p : List ℕ) (path : Path net (source net i) (sink net i) p) (flow : List ℤ) (sized : Sized flow) where
    abbrev next : List ℤ
    next = drawn (source net i) p flow

    -- Of another commodity nothing changes at any node.
    out-other : (j v : ℕ) → (j ≡ i → ⊥) → outflow net (amounts net next j) v ≡ outflow net (amounts net flow j) v
    out-other j v other =
        out-same net (amounts net flow j) (amounts net next j) (λ a b. drawn-other (source net i) (sink net i) p flow path sized j a b other) v

    in-other : (j v : ℕ) → (j ≡ i → ⊥) → inflow net (amounts net next j) v ≡ inflow net (amounts net flow j) v
    in-other j v other =
        in-same net (amounts net flow j) (amounts net next j) (λ a b. drawn-other (source net i) (sink net i) p flow path sized j a b other) v

    -- All commodities' use of a node grows by no more than the draw where it is visited.
    pub drawn-use : (v : ℕ) →
        use_of net (amounts net next) v ≤ use_of net (amounts net flow) v + times v (visited net (source net i) p) * g
    unfolding use_of
    drawn-use v =
        omega (
          arith,
          sum-swap (commodities net) (λ j. max (inflow net (amounts net flow j) v) (outflow net (amounts net flow j) v))
              (λ j. max (inflow net (amounts net next j) v) (outflow net (amounts net next j) v)) i listed
              (λ j b other. rw (in-other j v other, out-other j v other)),
          drawn-out (source net i) (sink net i) p flow path sized v,
          drawn-in (source net i) (sink net i) p flow path sized v,
        )

    -- Nothing more of any commodity enters its source, if the path does not come back to its own.
    pub sources-stay : times (source net i) (visited net (source net i) p) ≤ 1 →
        (j : ℕ) → inflow net (amounts net next j) (source net j) ≤ inflow net (amounts net flow j) (source net j)
    sources-stay one j = by-test (eqb j i) refl
      where
        by-test : (t : Bool) → eqb j i ≡ t → inflow net (amounts net next j) (source net j) ≤ inflow net (amounts net flow j) (source net j)
        by-test false h = le_of_eq (in-other j (source net j) (eqb-false j i h))
        by-test true h =
            rw (eqb-true j i h)
            (omega (
              arith,
              drawn-in (source net i) (sink net i) p flow path sized (source net i),
              ap (λ x. x * g) (once-same (source net i)),
              mul-le-mul_right g one,
            ))

    -- It is a flow still.
    pub stays-flow : Flow net (amounts net flow) → Flow net (amounts net next)
    stays-flow F =
        record {
          balance = λ j v l lo hi ns nt. even j v (eqb j i) refl ns nt (F.balance j v l lo hi ns nt);
          one_way = λ j e l b one. drawn-one-way (source net i) (sink net i) p flow path sized j e b one (F.one_way j e l b one);
        }
      where
        even : (j v : ℕ) (t : Bool) → eqb j i ≡ t → (v ≡ source net j → ⊥) → (v ≡ sink net j → ⊥) →
            inflow net (amounts net flow j) v ≡ outflow net (amounts net flow j) v → inflow net (amounts net next j) v ≡ outflow net (amounts net next j) v
        even j v false q ns nt h = omega (arith, h, out-other j v (eqb-false j i q), in-other j v (eqb-false j i q))
        even j v true q ns nt h =
            let same : j ≡ i = eqb-true j i q in
            rw same
            (omega (
              arith,
              rw same at h,
              drawn-balance (source net i) (sink net i) p flow path sized v,
              ap (λ x. x * g) (once-other (source net i) v (rw same at ns)),
              ap (λ x. x * g) (once-other (sink net i) v (rw same at nt)),
            ))

    -- Its total is larger by the draw.
    pub carries-more : (total : ℕ) → (source net i ≡ sink net i → ⊥) → Carries net (amounts net flow) total → Carries net (amounts net next) (total + g)
    unfolding leaving entering
    carries-more total apart h =
        omega (
          arith,
          h,
          sum-swap (commodities net) (λ j. outflow net (amounts net flow j) (source net j)) (λ j. outflow net (amounts net next j) (source net j)) i listed
              (λ j b other. out-other j (source net j) other),
          sum-swap (commodities net) (λ j. inflow net (amounts net flow j) (source net j)) (λ j. inflow net (amounts net next j) (source net j)) i listed
              (λ j b other. in-other j (source net j) other),
          drawn-balance (source net i) (sink net i) p flow path sized (source net i),
          ap (λ x. x * g) (once-same (source net i)),
          ap (λ x. x * g) (once-other (sink net i) (source net i) apart),
        )
