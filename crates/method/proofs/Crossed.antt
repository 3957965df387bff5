-- A draw over one arc: what it does to the amounts of a flow table, at each node, and to the sizes on each arc.
-- Assumes nothing.
use mathlib.Core.Path.{◌≡◌, refl, sym, ap, subst}
use mathlib.Core.Bool.{Bool, true, false, cond}
use mathlib.Core.List.{List}
use mathlib.Core.Option.{some}
use Prim.Native.Nat.{ℕ, ◌+◌, ◌*◌, ◌≤◌, ◌<◌}
use native.Mathlib.Nat.{mul-le-mul_right, add_left_cancel}
use native.Mathlib.Omega.{arith}
use borrow.Author.Tests.{eqb-true, eqb-false, eq-eqb}
use lib.Dec.{eqb}
use lib.IntN.{ℤ, pos}
use lib.ListN.{length}
use lib.Seq.{get_or-set_same, get_or-set_other}
use Rattle.arith.proofs.Order.{Compared, below, equal, above, compare}
use Rattle.arith.proofs.Sums.{sum-cong, sum-swap}
use Rattle.signed.specs.Signed.{ahead, back, size, moved}
use Rattle.signed.proofs.Signed.{more_parts, less-parts, more-size, less-size, more-back, moved-size}
use Rattle.network.specs.Flow.{passing, outflow, inflow, sizes_on}
use Rattle.network.specs.Network.{Network, arcs, commodities, tail, head, reversible}
use Rattle.network.specs.Path.{forward, leads}
use Rattle.network.proofs.Leads.{leads-arc, leads-near, leads-beyond, leads-one-way}
use Rattle.method.specs.Answer.{amounts}
use Rattle.method.specs.Iteration.{crossed}
use Rattle.method.proofs.Times.{once}

-- Two places of a table of rows of m numbers are the same only in the same row.
same_row : (m i j x e : ℕ) → x < m → e < m → i * m + x ≡ j * m + e → i ≡ j
same_row m i j x e a b h = by_order (compare i j)
  where
    by_order : Compared i j → i ≡ j
    by_order (below l) = absurd (omega (arith, mul-le-mul_right m l))
    by_order (equal q) = q
    by_order (above l) = absurd (omega (arith, mul-le-mul_right m l))

-- One commodity's amounts f and h that agree but on arc e, where g more goes forward.
module _ (net : Network) (f h : ℕ → ℤ) (e : ℕ) (l : e < arcs net) (same : (a : ℕ) → a < arcs net → (a ≡ e → ⊥) → h a ≡ f a) (u : ℕ) where
  -- one part of the amounts, at the arcs' tails or heads
  abbrev at : (ℤ → ℕ) → (ℕ → ℕ) → (ℕ → ℤ) → ℕ
  at part end x = passing (arcs net) end (λ a. part (x a)) u

  changes : (part : ℤ → ℕ) (end : ℕ → ℕ) →
      at part end h + cond (eqb (end e) u) (part (f e)) 0 ≡ at part end f + cond (eqb (end e) u) (part (h e)) 0
  unfolding passing
  changes part end =
      sum-swap (arcs net) (λ a. cond (eqb (end a) u) (part (f a)) 0) (λ a. cond (eqb (end a) u) (part (h a)) 0) e l
      (λ a b other. ap (λ x. cond (eqb (end a) u) (part x) 0) (same a b other))

  -- What leaves node u less what enters it is more by g at the tail, and less by g at the head.
  shifts : (g : ℕ) → ahead (h e) + back (f e) ≡ ahead (f e) + g + back (h e) →
      outflow net h u + inflow net f u + once u (head net e) * g ≡ outflow net f u + inflow net h u + once u (tail net e) * g
  unfolding outflow inflow
  shifts g p =
      by-ends (eqb (tail net e) u) (eqb (head net e) u) (changes ahead (tail net)) (changes back (head net)) (changes ahead (head net))
      (changes back (tail net))
    where
      by-ends : (s t : Bool) → at ahead (tail net) h + cond s (ahead (f e)) 0 ≡ at ahead (tail net) f + cond s (ahead (h e)) 0 →
          at back (head net) h + cond t (back (f e)) 0 ≡ at back (head net) f + cond t (back (h e)) 0 →
          at ahead (head net) h + cond t (ahead (f e)) 0 ≡ at ahead (head net) f + cond t (ahead (h e)) 0 →
          at back (tail net) h + cond s (back (f e)) 0 ≡ at back (tail net) f + cond s (back (h e)) 0 →
          at ahead (tail net) h + at back (head net) h + (at ahead (head net) f + at back (tail net) f) + cond t 1 0 * g ≡
          at ahead (tail net) f + at back (head net) f + (at ahead (head net) h + at back (tail net) h) + cond s 1 0 * g
      by-ends true true a b c d = omega (arith, p)
      by-ends true false a b c d = omega (arith, p)
      by-ends false true a b c d = omega (arith, p)
      by-ends false false a b c d = omega (arith, p)

  -- What leaves a node, or enters it, grows by no more than the parts on e at that end.
  grows : (a b : ℕ) → ahead (h e) ≤ ahead (f e) + a → back (h e) ≤ back (f e) + b →
      (outflow net h u ≤ outflow net f u + once u (tail net e) * a + once u (head net e) * b) ×
      (inflow net h u ≤ inflow net f u + once u (head net e) * a + once u (tail net e) * b)
  unfolding outflow inflow
  grows a b p r = (
    omega (arith, part-grows ahead (tail net) a p, part-grows back (head net) b r),
    omega (arith, part-grows ahead (head net) a p, part-grows back (tail net) b r),
  )
    where
      by_end : (part : ℤ → ℕ) (end : ℕ → ℕ) (c : ℕ) (s : Bool) → part (h e) ≤ part (f e) + c →
          at part end h + cond s (part (f e)) 0 ≡ at part end f + cond s (part (h e)) 0 → at part end h ≤ at part end f + cond s 1 0 * c
      by_end part end c true p q = omega (arith, p, q)
      by_end part end c false p q = omega (arith, q)

      part-grows : (part : ℤ → ℕ) (end : ℕ → ℕ) (c : ℕ) → part (h e) ≤ part (f e) + c → at part end h ≤ at part end f + once u (end e) * c
      part-grows part end c p = by_end part end c (eqb (end e) u) p (changes part end)

module _ (net : Network) (i g : ℕ) (listed : i < commodities net) (flow : List ℤ) (sized : length flow ≡ commodities net * arcs net) (v e w : ℕ)
    (h : leads net v e ≡ some w) where
  abbrev next : List ℤ
  next = crossed net (i * arcs net) g v e flow

  l : e < arcs net
  l = leads-arc net v e w h

  -- Commodity i's amount on e is moved by g,
  crossed-at : amounts net next i e ≡ moved (forward net v e) g (amounts net flow i e)
  unfolding amounts
  crossed-at = get_or-set_same flow (i * arcs net + e) _ (pos 0) (omega (arith, sized, mul-le-mul_right (arcs net) listed, l))

  -- and no other.
  pub crossed-other : (j a : ℕ) → a < arcs net → ((j ≡ i) × (a ≡ e) → ⊥) → amounts net next j a ≡ amounts net flow j a
  unfolding amounts
  crossed-other j a b other =
      get_or-set_other flow (i * arcs net + e) (j * arcs net + a) _ (pos 0)
      (λ (q : j * arcs net + a ≡ i * arcs net + e).
      let r : j ≡ i = same_row (arcs net) j i a e b l q in
      other (r, add_left_cancel (i * arcs net) (rw r at q)))

  -- Of commodity i, what leaves a node less what enters it is more by g where the draw comes from, and less by g where it goes.
  pub crossed-balance : (u : ℕ) →
      outflow net (amounts net next i) u + inflow net (amounts net flow i) u + once u w * g ≡
      outflow net (amounts net flow i) u + inflow net (amounts net next i) u + once u v * g
  crossed-balance u = by_way (forward net v e) (leads-near net v e w h) (leads-beyond net v e w h) crossed-at
    where
      by_way : (b : Bool) → cond b (tail net e) (head net e) ≡ v → cond b (head net e) (tail net e) ≡ w →
          amounts net next i e ≡ moved b g (amounts net flow i e) →
          outflow net (amounts net next i) u + inflow net (amounts net flow i) u + once u w * g ≡
          outflow net (amounts net flow i) u + inflow net (amounts net next i) u + once u v * g
      by_way true p q r =
          omega (
            arith,
            shifts net (amounts net flow i) (amounts net next i) e l (λ a b other. crossed-other i a b (λ z. other z.1)) u g
                (rw r (more_parts (amounts net flow i e) g)),
            ap (λ x. once u x * g) p,
            ap (λ x. once u x * g) q,
          )
      by_way false p q r =
          omega (
            arith,
            shifts net (amounts net next i) (amounts net flow i) e l (λ a b other. sym (crossed-other i a b (λ z. other z.1))) u g
                (rw r (omega (arith, less-parts (amounts net flow i e) g))),
            ap (λ x. once u x * g) p,
            ap (λ x. once u x * g) q,
          )

  -- What leaves a node grows by no more than the draw from there, and what enters it by no more than the draw to there.
  pub crossed-grows : (u : ℕ) →
      (outflow net (amounts net next i) u ≤ outflow net (amounts net flow i) u + once u v * g) ×
      (inflow net (amounts net next i) u ≤ inflow net (amounts net flow i) u + once u w * g)
  crossed-grows u = by_way (forward net v e) (leads-near net v e w h) (leads-beyond net v e w h) crossed-at
    where
      same : (a : ℕ) → a < arcs net → (a ≡ e → ⊥) → amounts net next i a ≡ amounts net flow i a
      same a b other = crossed-other i a b (λ z. other z.1)

      by_way : (b : Bool) → cond b (tail net e) (head net e) ≡ v → cond b (head net e) (tail net e) ≡ w →
          amounts net next i e ≡ moved b g (amounts net flow i e) →
          (outflow net (amounts net next i) u ≤ outflow net (amounts net flow i) u + once u v * g) ×
          (inflow net (amounts net next i) u ≤ inflow net (amounts net flow i) u + once u w * g)
      by_way true p q r =
          let x = amounts net flow i e in
          let k = grows net (amounts net flow i) (amounts net next i) e l same u g 0
          (rw r (omega (arith, more_parts x g, more-size x g))) (rw r (omega (arith, more_parts x g, more-size x g))) in
          (omega (arith, k.0, ap (λ x. once u x * g) p), omega (arith, k.1, ap (λ x. once u x * g) q))
      by_way false p q r =
          let x = amounts net flow i e in
          let k = grows net (amounts net flow i) (amounts net next i) e l same u 0 g
          (rw r (omega (arith, less-parts x g, less-size x g))) (rw r (omega (arith, less-parts x g, less-size x g))) in
          (omega (arith, k.0, ap (λ x. once u x * g) p), omega (arith, k.1, ap (λ x. once u x * g) q))

  -- On an arc that is not reversible nothing goes back where nothing did.
  pub crossed-one-way : (j a : ℕ) → a < arcs net → reversible net a ≡ false → back (amounts net flow j a) ≡ 0 → back (amounts net next j a) ≡ 0
  crossed-one-way j a b one z = by_place (eqb j i) (eqb a e) refl refl
    where
      ahead-only : reversible net e ≡ false → back (amounts net next i e) ≤ back (amounts net flow i e)
      ahead-only r = rw (crossed-at, eq-eqb (tail net e) v (leads-one-way net v e w h r).0) (more-back (amounts net flow i e) g)

      by_place : (s t : Bool) → eqb j i ≡ s → eqb a e ≡ t → back (amounts net next j a) ≡ 0
      by_place true true p q = rw (eqb-true j i p, eqb-true a e q) (omega (arith, ahead-only (rw (eqb-true a e q) at one), rw (eqb-true j i p, eqb-true a e q) at z))
      by_place true false p q = rw (crossed-other j a b (λ r. eqb-false a e q r.1)) z
      by_place false t p q = rw (crossed-other j a b (λ r. eqb-false j i p r.0)) z

  -- The sizes on an arc together grow by no more than the draw over it.
  pub crossed-sizes : (a : ℕ) → a < arcs net → sizes_on net (amounts net next) a ≤ sizes_on net (amounts net flow) a + once a e * g
  unfolding sizes_on
  crossed-sizes a b = by-arc (eqb e a) refl
    where
      by-arc : (t : Bool) → eqb e a ≡ t → sizes_on net (amounts net next) a ≤ sizes_on net (amounts net flow) a + cond t 1 0 * g
      by-arc true q =
          subst (λ x. sizes_on net (amounts net next) x ≤ sizes_on net (amounts net flow) x + 1 * g) (eqb-true e a q)
          (omega (
            arith,
            sum-swap (commodities net) (λ j. size (amounts net flow j e)) (λ j. size (amounts net next j e)) i listed
                (λ j c other. ap (λ x. size x) (crossed-other j e l (λ z. other z.0))),
            ap (λ x. size x) crossed-at,
            moved-size (forward net v e) g (amounts net flow i e),
          ))
      by-arc false q =
          omega (
            arith,
            sum-cong (commodities net) (λ j. size (amounts net next j a)) (λ j. size (amounts net flow j a))
                (λ j c. ap (λ x. size x) (crossed-other j a b (λ z. eqb-false e a q (sym z.1)))),
          )
