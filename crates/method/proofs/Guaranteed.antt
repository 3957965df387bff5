-- The outcome of every accepted network, joined or not, meets the guarantee.
-- Assumes nothing.
use mathlib.Core.Path.{◌≡◌, refl, sym, ap, ◌∙◌}
use mathlib.Core.Bool.{Bool, true, false}
use mathlib.Core.Logic.{◌↔◌}
use mathlib.Core.List.{List}
use mathlib.Core.Option.{Option, none, some, none-ne-some}
use Prim.Native.Nat.{ℕ, zero, suc, ◌+◌, ◌*◌, ◌-◌, ◌≤◌, ◌<◌}
use native.Mathlib.Nat.{mul-pos, mul-le-mul_right, le_of_mul-le-mul_left}
use native.Mathlib.Omega.{arith}
use borrow.Author.Tests.{leb-true}
use lib.Dec.{leb, lit≤}
use lib.IntN.{ℤ}
use lib.ListN.{get_or}
use Rattle.arith.proofs.Exists.{exists-true}
use Rattle.length.specs.Level.{level, threshold}
use Rattle.network.specs.Network.{Network, arcs, commodities, source}
use Rattle.network.specs.Flow.{Flow, Keeps, AtMost}
use Rattle.network.specs.Path.{Joined}
use Rattle.network.specs.Resources.{place, resources, resource_capacities, resource_capacity}
use Rattle.network.specs.Sound.{Sound}
use Rattle.network.proofs.Resources.{arcs-le, place-high, resource-capacity-arc, resource-capacity-node}
use Rattle.network.proofs.Sounds.{sound-ends, resources-within, resource-capacity-within}
use Rattle.network.proofs.Duality.{Bounds}
use Rattle.network.proofs.Keeping.{keeping}
use Rattle.packing.proofs.Count.{count-all}
use Rattle.packing.proofs.Near.{near, near-two, near-share}
use Rattle.packing.proofs.Health.{positive-alpha}
use Rattle.packing.proofs.Run as packing
use Rattle.method.specs.Answer.{fullest, unjoined, outcome_of, outcome}
use Rattle.method.specs.Choice.{Choice, choice}
use Rattle.method.specs.Guarantee.{Guarantee}
use Rattle.method.specs.Iteration.{State, initial, weight, advance, iteration}
use Rattle.method.specs.Run.{ended, nth, runs, run}
use Rattle.method.specs.Sizes.{Sizes}
use Rattle.method.proofs.Bound.{bounded, unjoined-bounded}
use Rattle.method.proofs.Ends.{Final, run-final, final-at, final-before, final-sizes}
use Rattle.method.proofs.Fitting.{unjoined-fits, state-fits}
use Rattle.method.proofs.Fullest.{Fullest, is-fullest}
use Rattle.method.proofs.Instance.{seen, iterated}
use Rattle.method.proofs.Joining.{choice-none, none-by-any}
use Rattle.method.proofs.Programs.{program}
use Rattle.method.proofs.Reached.{Best, unset, kept, Valid, valid-step, chosen_at, fair}
use Rattle.method.proofs.Table.{in-zero, zero-flow, zero-carries, zero-sizes, zero-use}

-- T * ce ≤ ye and ye / ce ≤ yb / cb give T * cb ≤ yb.
ratio-le : (T ce cb ye yb : ℕ) → 0 < ce → T * ce ≤ ye → ye * cb ≤ yb * ce → T * cb ≤ yb
ratio-le T ce cb ye yb l h k = le_of_mul-le-mul_left {k = ce} (omega (arith, mul-le-mul_right cb h)) l

-- What chooses by some lengths chooses by any.
pub always : (net : Network) (m : List ℕ) (c : Choice) → choice net m ≡ some c → (l : List ℕ) → (d : Choice) × (choice net l ≡ some d)
always net m c h l = by-choice (choice net l) refl
  where
    by-choice : (o : Option Choice) → choice net l ≡ o → (d : Choice) × (choice net l ≡ some d)
    by-choice none k = absurd (none-ne-some c (sym (none-by-any net l m k) ∙ h))
    by-choice (some d) k = (d, k)

stays : (net : Network) (q : ℕ) → choice net (initial net).lengths ≡ none → iteration net q (initial net) ≡ initial net
unfolding iteration
stays net q h = rw (h, iteration) refl

-- Where nothing is joined, no iteration changes anything.
still : (net : Network) (q n : ℕ) → choice net (initial net).lengths ≡ none → runs net q n (initial net) ≡ initial net
unfolding runs
still net q zero h = refl
still net q (suc n) h = by-test (iteration net q (initial net)) (stays net q h) (ended net q (iteration net q (initial net))) (still net q n h)
  where
    by-test :
        (t : State) → t ≡ initial net → (b : Bool) → runs net q n (initial net) ≡ initial net →
        elim b [ true ↦ t | false ↦ runs net q n t ] ≡ initial net
    by-test t e true rest = e
    by-test t e false rest = ap (runs net q n) e ∙ rest

module _ (net : Network) (q : ℕ) (sound : Sound net q) where
  -- The fullest resource is at the threshold where some resource is.
  fullest-full :
      (s : State) → ended net q s ≡ true → (b : ℕ) → Fullest (resource_capacities net) s.loads (resources net - 1) b →
      q * level (resources net) q * resource_capacity net b ≤ get_or s.loads b 0
  unfolding ended threshold
  fullest-full s h b f =
      let w = exists-true (resources net) (λ e. leb (q * level (resources net) q * resource_capacity net e) (get_or s.loads e 0)) h in
      let e : ℕ = w.0 in
      let l : e < resources net = w.1 in
      ratio-le (q * level (resources net) q) (resource_capacity net e) (resource_capacity net b) (get_or s.loads e 0) (get_or s.loads b 0)
      (resource-capacity-within net q sound e l).least
      (leb-true (q * level (resources net) q * resource_capacity net e) (get_or s.loads e 0) w.2)
      (f.greatest e (omega arith))

  module _ (t : State) (f : Final net q t) where
    valid : Valid net q t
    valid = rw f.is (valid-step net q sound f.prior f.reached.valid f.choosing f.chosen)

    step : packing.Iteration (resources net) q (resource_capacity net) (seen f.prior) (seen t)
    step = rw f.is (iterated net q f.choosing f.prior (fair net q sound f.prior f.reached.valid f.choosing f.chosen))

    abbrev b : ℕ
    b = fullest (resource_capacities net) t.loads (resources net - 1)

    full : Fullest (resource_capacities net) t.loads (resources net - 1) b
    full = is-fullest (resource_capacities net) t.loads (resources net - 1) (λ e l. (resource-capacity-within net q sound e (omega (arith, (resources-within net q sound).least))).least)

    inside : b < resources net
    inside = omega (arith, full.among, (resources-within net q sound).least)

    at_mark : q * level (resources net) q * resource_capacity net b ≤ get_or t.loads b 0
    at_mark = fullest-full t f.full b full

    loaded : 0 < get_or t.loads b 0
    loaded =
        let p = program net q sound in
        let coarse : 0 < q = omega (arith, p.precision-low) in
        omega (arith, at_mark, mul-pos (mul-pos coarse p.level) (p.capacity-low b inside))

    alpha-pos : 0 < t.alpha
    unfolding seen
    alpha-pos = positive-alpha (program net q sound) f.reached.valid.run step

    weighed : weight net t.best_lengths ≡ t.bound
    weighed = by-best valid.best
      where
        by-best : Best net t.bound t.alpha t.best_lengths → weight net t.best_lengths ≡ t.bound
        by-best (unset e z) = absurd (omega (arith, alpha-pos))
        by-best (kept e far) = sym e

    upper : (d : ℕ) (g : ℕ → ℕ → ℤ) → Flow net g → Keeps net 1 d g → AtMost net g d t.bound t.alpha
    upper = by-best valid.best
      where
        by-best : Best net t.bound t.alpha t.best_lengths → Bounds net t.bound t.alpha
        by-best (unset e z) = absurd (omega (arith, alpha-pos))
        by-best (kept e far) = rw e (bounded net (sound-ends net q sound) t.best_lengths t.alpha far)

    near_by : (8 * q - 9) * (t.bound * get_or t.loads b 0) ≤ (8 * q + 5) * (t.total * resource_capacity net b * t.alpha)
    unfolding seen
    near_by = near (program net q sound) f.reached.valid.run f.reached.below step b inside at_mark

    near-enough : (q - 2) * (t.bound * get_or t.loads b 0) ≤ q * (t.total * resource_capacity net b * t.alpha)
    unfolding seen
    near-enough = near-two (program net q sound) f.reached.valid.run f.reached.below step b inside at_mark

    near_within : (d r Q : ℕ) → 14 * d ≤ 8 * r → r ≤ Q → Q ≡ d * q → (Q - r) * (t.bound * get_or t.loads b 0) ≤ Q * (t.total * resource_capacity net b * t.alpha)
    unfolding seen
    near_within = near-share (program net q sound) f.reached.valid.run f.reached.below step b inside at_mark

    few : t.count ≤ resources net * threshold (resources net) q
    unfolding seen threshold
    few = count-all (program net q sound) f.reached.valid.run f.reached.below step

    -- It has chosen, so it is not the unjoined outcome, and some commodity is joined.
    chosen-joins : Sizes net t → outcome_of net t ≡ unjoined net ↔ ((i : ℕ) → i < commodities net → Joined net i → ⊥)
    unfolding outcome_of unjoined advance
    chosen-joins z = (
      λ e. absurd (omega (arith, ap (λ o. o.answer.count) e, ap (λ s. s.count) f.is)),
      λ none.
          let c = chosen_at net q sound f.prior f.reached.valid f.choosing f.chosen in
          absurd (none f.choosing.commodity c.commodity (f.choosing.path, c.path)),
    )

    final-guarantee :
        Sizes net t → run net q ≡ t → t ≡ nth net q t.count → ((j : ℕ) → j < t.count → ended net q (nth net q j) ≡ false) →
        Guarantee net q (outcome_of net t)
    unfolding outcome_of
    final-guarantee sizes is at before =
        record {
          joins = chosen-joins sizes;
          flow = valid.table.flows;
          total = valid.table.carries;
          sources = λ i l. valid.table.sources i;
          -- Sizes and uses are within the loads, and no load over capacity is greater than that of b.
          keeps =
              keeping net _ _ _
              (λ e l.
              omega (
                arith,
                mul-le-mul_right (resource_capacity net b) (valid.table.within e l),
                full.greatest e (omega (arith, arcs-le net)),
                ap (λ c. c * get_or t.loads b 0) (resource-capacity-arc net e l),
              ))
              (λ v l h.
              omega (
                arith,
                mul-le-mul_right (resource_capacity net b) (valid.table.limits v h),
                full.greatest (place net v) (omega (arith, place-high net v l h)),
                ap (λ c. c * get_or t.loads b 0) (resource-capacity-node net v l h),
              ));
          some-load = loaded;
          upper = upper;
          some-alpha = alpha-pos;
          near = near-enough;
          -- The figures are read off the statement: what is shown here is that they are enough, 14 * 4 ≤ 8 * 7.
          closer = near_within _ _ _ (lit≤ tt) (omega (arith, (program net q sound).precision-low)) refl;
          nearer = near_by;
          steps = is ∙ at;
          last = λ some. rw (← at) f.full;
          before = before;
          count = few;
          fits = state-fits net q sound t sizes inside valid.table valid.bests weighed;
        }

  -- No commodity is joined: nothing is carried, and nothing can be.
  unjoined-guarantee : choice net (initial net).lengths ≡ none → Guarantee net q (unjoined net)
  unfolding unjoined run nth
  unjoined-guarantee h =
      record {
        joins = (λ e i l j. choice-none net (sound-ends net q sound) (initial net).lengths i l j h, λ none. refl);
        flow = zero-flow net (commodities net * arcs net);
        total = zero-carries net (commodities net * arcs net);
        sources = λ i l. in-zero net (commodities net * arcs net) i (source net i);
        keeps =
            keeping net _ _ _
            (λ e l. omega (arith, zero-sizes net (commodities net * arcs net) e))
            (λ v l h. omega (arith, zero-use net (commodities net * arcs net) v));
        some-load = omega arith;
        upper =
            unjoined-bounded net (sound-ends net q sound)
            (λ i l j. choice-none net (sound-ends net q sound) (initial net).lengths i l j h);
        some-alpha = omega arith;
        near = omega arith;
        closer = omega arith;
        nearer = omega arith;
        steps = still net q (resources net * threshold (resources net) q) h;
        last = λ some. absurd (omega arith);
        before = λ j l. absurd (omega arith);
        count = omega arith;
        fits = unjoined-fits net;
      }

  pub guarantee : Guarantee net q (outcome net q)
  unfolding outcome
  guarantee = by-choice (choice net (initial net).lengths) refl
    where
      by-choice :
          (o : Option Choice) → choice net (initial net).lengths ≡ o →
          Guarantee net q (elim o [ none ↦ unjoined net | some c ↦ outcome_of net (run net q) ])
      by-choice none h = unjoined-guarantee h
      by-choice (some c) h =
          let some-path = always net (initial net).lengths c h in
          let final = run-final net q sound some-path in
          final-guarantee (run net q) final (final-sizes net q sound some-path) refl (final-at net q sound some-path (run net q) final)
          (final-before net q sound some-path (run net q) final)
