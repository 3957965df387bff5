-- The flow table at every state of a run: it is a flow of total F, nothing of a commodity enters its own source, and the sizes of its amounts and the uses
-- of the limited nodes are within the loads.
-- Assumes nothing.
use mathlib.Core.Path.{◌≡◌, refl, sym, ap, ◌∙◌}
use mathlib.Core.Bool.{Bool, true, false, cond}
use mathlib.Core.Logic.{⊎_elim}
use mathlib.Core.List.{List}
use Prim.Native.Nat.{ℕ, ◌+◌, ◌*◌, ◌≤◌, ◌<◌, max}
use native.Mathlib.Nat.{le_trans, le_of_eq, mul-le-mul_right}
use native.Mathlib.Omega.{arith}
use lib.Dec.{eqb}
use lib.IntN.{ℤ, pos}
use lib.ListN.{length, get_or, replicate, length-replicate, get_or-replicate, get_or-eq_default}
use Rattle.arith.proofs.Order.{le-or-lt}
use Rattle.arith.proofs.Sums.{sum-cong, sum-zero}
use Rattle.signed.specs.Signed.{ahead, back, size}
use Rattle.network.specs.Network.{Network, arcs, commodities, tail, head, limited, source, sink}
use Rattle.network.specs.Resources.{place, resources, resource_capacities}
use Rattle.network.specs.Flow.{Flow, Carries, passing, outflow, inflow, sizes_on, use_of, leaving, entering}
use Rattle.method.specs.Choice.{Choice, used_by}
use Rattle.method.specs.Chosen.{Chosen}
use Rattle.method.specs.Iteration.{State, initial, draw, advance}
use Rattle.method.specs.Answer.{amounts}
use Rattle.method.proofs.Drawn.{drawn-sized, drawn-sizes, drawn-use, sources-stay, stays-flow, carries-more}
use Rattle.method.proofs.Once.{distinct-once}
use Rattle.method.proofs.Times.{Below, update-length, update-adds}
use Rattle.method.proofs.Used.{arc-used, node-used}

pub record Table (net : Network) (flow : List ℤ) (loads : List ℕ) (total : ℕ) : Type 0 where
  pub rows : length flow ≡ commodities net * arcs net
  pub places : length loads ≡ resources net
  pub flows : Flow net (amounts net flow)
  pub carries : Carries net (amounts net flow) total
  pub sources : (i : ℕ) → inflow net (amounts net flow i) (source net i) ≡ 0
  pub within : (e : ℕ) → e < arcs net → sizes_on net (amounts net flow) e ≤ get_or loads e 0
  pub limits : (v : ℕ) → limited net v ≡ true → use_of net (amounts net flow) v ≤ get_or loads (place net v) 0

-- Every place of a table of equal entries, and past its end, reads as such an entry.
pub all_alike : {A : Type 0} (x : A) (n j : ℕ) → get_or (replicate n x) j x ≡ x
all_alike x n j =
    ⊎_elim (λ (h : n ≤ j). get_or-eq_default (replicate n x) x (le_trans (le_of_eq (length-replicate n x)) h)) (λ l. get_or-replicate n j x x l) (le-or-lt n j)

pub zeros : (n j : ℕ) → ◌≡◌ {A = ℕ} (get_or (replicate n 0) j 0) 0
zeros n j = all_alike 0 n j

module _ (net : Network) (n : ℕ) where
  abbrev nothing : ℕ → ℕ → ℤ
  nothing = amounts net (replicate n (pos 0))

  pub nothing-at : (i e : ℕ) → nothing i e ≡ pos 0
  unfolding amounts
  nothing-at i e = all_alike (pos 0) n (i * arcs net + e)

  -- Nothing of either part, at the tails or the heads.
  at_zero : (part : ℤ → ℕ) (end : ℕ → ℕ) → part (pos 0) ≡ 0 → (i v : ℕ) → passing (arcs net) end (λ e. part (nothing i e)) v ≡ 0
  unfolding passing
  at_zero part end z i v = sum-cong (arcs net) (λ e. cond (eqb (end e) v) (part (nothing i e)) 0) (λ e. 0) (λ e l. rw (nothing-at i e, z) (none (eqb (end e) v))) ∙ sum-zero (arcs net)
    where
      none : (b : Bool) → ◌≡◌ {A = ℕ} (cond b 0 0) 0
      none true = refl
      none false = refl

  out-zero : (i v : ℕ) → outflow net (nothing i) v ≡ 0
  unfolding outflow ahead back
  out-zero i v = omega (arith, at_zero ahead (tail net) refl i v, at_zero back (head net) refl i v)

  pub in-zero : (i v : ℕ) → inflow net (nothing i) v ≡ 0
  unfolding inflow ahead back
  in-zero i v = omega (arith, at_zero ahead (head net) refl i v, at_zero back (tail net) refl i v)

  -- The table of zeros is a flow that carries 0 and loads no arc.
  pub zero-flow : Flow net nothing
  unfolding back
  zero-flow = record { balance = λ i v a b c d f. in-zero i v ∙ sym (out-zero i v); one_way = λ i e a b c. ap back (nothing-at i e) }

  pub zero-carries : Carries net nothing 0
  unfolding leaving entering
  zero-carries =
      omega (
        arith,
        sum-cong (commodities net) (λ i. outflow net (nothing i) (source net i)) (λ i. 0) (λ i l. out-zero i (source net i)),
        sum-cong (commodities net) (λ i. inflow net (nothing i) (source net i)) (λ i. 0) (λ i l. in-zero i (source net i)),
      )

  pub zero-sizes : (e : ℕ) → sizes_on net nothing e ≡ 0
  unfolding sizes_on ahead back
  zero-sizes e = sum-cong (commodities net) (λ i. size (nothing i e)) (λ i. 0) (λ i l. ap (λ x. size x) (nothing-at i e)) ∙ sum-zero (commodities net)

  -- and uses no node.
  pub zero-use : (v : ℕ) → use_of net nothing v ≡ 0
  unfolding use_of
  zero-use v =
      sum-cong (commodities net) (λ i. max (inflow net (nothing i) v) (outflow net (nothing i) v)) (λ i. 0)
      (λ i l. omega (arith, in-zero i v, out-zero i v)) ∙
      sum-zero (commodities net)

pub table-start : (net : Network) → Table net (initial net).flow (initial net).loads (initial net).total
unfolding initial
table-start net =
    record {
      rows = length-replicate (commodities net * arcs net) (pos 0);
      places = length-replicate (resources net) 0;
      flows = zero-flow net (commodities net * arcs net);
      carries = zero-carries net (commodities net * arcs net);
      sources = λ i. in-zero net (commodities net * arcs net) i (source net i);
      within = λ e l. omega (arith, zero-sizes net (commodities net * arcs net) e);
      limits = λ v h. omega (arith, zero-use net (commodities net * arcs net) v);
    }

pub table_step :
    (net : Network) (q : ℕ) (c : Choice) (s : State) → Chosen net s.lengths c → Below (resources net) (used_by net c) →
    (source net c.commodity ≡ sink net c.commodity → ⊥) → Table net s.flow s.loads s.total →
    Table net (advance net q c s).flow (advance net q c s).loads (advance net q c s).total
unfolding advance
table_step net q c s x below apart w =
    let path = x.path in
    let listed = x.commodity in
    let g : ℕ = draw (resource_capacities net) (used_by net c) in
    let v : ℕ = source net c.commodity in
    let t : ℕ = sink net c.commodity in
    record {
      rows = drawn-sized net c.commodity g listed v c.path s.flow w.rows;
      places = update-length (λ e x. x + g) (used_by net c) s.loads ∙ w.places;
      flows = stays-flow net c.commodity g listed c.path path s.flow w.rows w.flows;
      carries = carries-more net c.commodity g listed c.path path s.flow w.rows s.total apart w.carries;
      sources = λ i.
          omega (arith, sources-stay net c.commodity g listed c.path path s.flow w.rows (distinct-once x.distinct v) i, w.sources i);
      within = λ e l.
          omega (
            arith,
            drawn-sizes net c.commodity g listed v t c.path s.flow path w.rows e l,
            w.within e l,
            update-adds g (used_by net c) s.loads e (rw w.places below),
            mul-le-mul_right g (arc-used net e v c.path),
          );
      limits = λ u h.
          omega (
            arith,
            drawn-use net c.commodity g listed c.path path s.flow w.rows u,
            w.limits u h,
            update-adds g (used_by net c) s.loads (place net u) (rw w.places below),
            mul-le-mul_right g (node-used net u v c.path h),
          );
    }
