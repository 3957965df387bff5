-- The numbers of an outcome take eight bytes each, by the sizes of a run. Assumes nothing.
use mathlib.Core.Path.{◌≡◌, ap}
use mathlib.Core.List.{List}
use mathlib.Core.Logic.{⊎_elim}
use Prim.Native.Nat.{ℕ, zero, suc, ◌+◌, ◌*◌, ◌-◌, ◌/◌, ◌%◌, ◌^◌, ◌≤◌, ◌<◌}
use native.Mathlib.Nat.{mul-le-mul, mul-le-mul_right, div-add-mod', mod-lt, div-lt_iff_lt-mul}
use native.Mathlib.Omega.{arith}
use lib.IntN.{ℤ, pos}
use lib.ListN.{length, get_or, length-replicate, get_or-eq_default}
use Rattle.arith.proofs.Order.{le-or-lt}
use Rattle.arith.proofs.Sums.{term-le-sum}
use Rattle.network.specs.Flow.{sizes_on}
use Rattle.network.specs.Network.{Network, arcs, commodities}
use Rattle.network.specs.Resources.{resources, resource_capacities, resource_capacity}
use Rattle.network.specs.Sound.{Sound}
use Rattle.network.proofs.Resources.{arcs-le}
use Rattle.network.proofs.Sounds.{resource-capacity-within}
use Rattle.method.specs.Answer.{fullest, numbers_of, amounts, unjoined, outcome_of}
use Rattle.signed.specs.Signed.{ahead, back, size}
use Rattle.method.specs.Fits.{Unsigned64, Signed64, Fits}
use Rattle.method.specs.Iteration.{State, weight}
use Rattle.method.specs.Sizes.{Sizes}
use Rattle.method.specs.declared.Answer.{Answer}
use Rattle.method.proofs.Table.{Table, all_alike, zeros, zero-sizes}

-- Past the end a list reads 0.
unsigned : (xs : List ℕ) → ((j : ℕ) → j < length xs → get_or xs j 0 < 2 ^ 64) → Unsigned64 xs
unsigned xs h j =
    ⊎_elim (λ (b : length xs ≤ j). omega (arith, get_or-eq_default xs 0 b)) (λ (b : j < length xs). h j b) (le-or-lt (length xs) j)

-- Past the end a flow reads 0 too.
small : (xs : List ℤ) → ((j : ℕ) → j < length xs → size (get_or xs j (pos 0)) < 2 ^ 21) → Signed64 xs
unfolding ahead back
small xs h j =
    ⊎_elim (λ (b : length xs ≤ j). omega (arith, ap (λ x. size x) (get_or-eq_default xs (pos 0) b))) (λ (b : j < length xs). omega (arith, h j b))
    (le-or-lt (length xs) j)

-- the answer's numbers, one after the other
seven : (a : Answer) → a.total < 2 ^ 64 → a.capacity < 2 ^ 64 → a.load < 2 ^ 64 → a.bound < 2 ^ 64 → a.alpha < 2 ^ 64 → a.count < 2 ^ 64 →
    a.best < 2 ^ 64 → Unsigned64 (numbers_of a)
unfolding numbers_of
seven a t c l b p n i = unsigned (numbers_of a) each
  where
    each : (j : ℕ) → j < length (numbers_of a) → get_or (numbers_of a) j 0 < 2 ^ 64
    each zero h = t
    each (suc zero) h = c
    each (suc (suc zero)) h = l
    each (suc (suc (suc zero))) h = b
    each (suc (suc (suc (suc zero)))) h = p
    each (suc (suc (suc (suc (suc zero))))) h = n
    each (suc (suc (suc (suc (suc (suc zero)))))) h = i
    each (suc (suc (suc (suc (suc (suc (suc j))))))) h = absurd (omega arith)

module _ (net : Network) where
  pub unjoined-fits : Fits net (unjoined net)
  unfolding unjoined ahead back
  unjoined-fits =
      record {
        amounts-count = length-replicate (commodities net * arcs net) (pos 0);
        lengths-count = length-replicate (resources net) 0;
        flow = λ j. omega (arith, ap (λ x. size x) (all_alike (pos 0) (commodities net * arcs net) j));
        lengths = λ j. omega (arith, zeros (resources net) j);
        answer =
            seven (unjoined net).answer (omega arith) (omega arith) (omega arith)
            (omega arith) (omega arith) (omega arith) (omega arith);
        total = omega arith;
        sizes = λ e l. omega (arith, zero-sizes net (commodities net * arcs net) e);
      }

  -- Lengths of at most D: each is at most its capacity times it.
  lengths-fit : (l : List ℕ) → length l ≡ resources net → ((e : ℕ) → e < resources net → 1 ≤ resource_capacity net e) → weight net l < 2 ^ 58 → Unsigned64 l
  unfolding weight
  lengths-fit l z positive h =
      unsigned l
      (λ j b.
      omega (
        arith,
        term-le-sum (resources net) (λ e. resource_capacity net e * get_or l e 0) j (omega arith),
        mul-le-mul_right (get_or l j 0) (positive j (omega arith)),
      ))

  -- An amount's size is at most its arc's load.
  amount-le : (flow : List ℤ) (loads : List ℕ) (total : ℕ) → Table net flow loads total → (i e : ℕ) → i < commodities net → e < arcs net →
      size (get_or flow (i * arcs net + e) (pos 0)) ≤ get_or loads e 0
  unfolding sizes_on amounts
  amount-le flow loads total t i e b l =
      omega (arith, t.within e l, term-le-sum (commodities net) (λ i. size (amounts net flow i e)) i b)

  -- So all of them are below what bounds the loads.
  pub flow-below : (most : ℕ) (flow : List ℤ) (loads : List ℕ) (total : ℕ) → Table net flow loads total → 1 ≤ arcs net →
      ((e : ℕ) → e < arcs net → get_or loads e 0 < most) → (j : ℕ) → j < length flow → size (get_or flow j (pos 0)) < most
  flow-below most flow loads total t some small j b =
      let row : j / arcs net < commodities net = (div-lt_iff_lt-mul some).1 (omega (arith, t.rows)) in
      let e : j % arcs net < arcs net = mod-lt j some in
      omega (
        arith,
        amount-le flow loads total t (j / arcs net) (j % arcs net) row e,
        small (j % arcs net) e,
        ap (λ p. size (get_or flow p (pos 0))) (div-add-mod' j (arcs net)),
      )

module _ (net : Network) (q : ℕ) (sound : Sound net q) (s : State) (sizes : Sizes net s) where
  abbrev b : ℕ
  b = fullest (resource_capacities net) s.loads (resources net - 1)

  -- A state of a run at which the loads are those of the flow table, and which has kept lengths: with b among the resources.
  pub state-fits :
      b < resources net → Table net s.flow s.loads s.total → length s.best_lengths ≡ resources net → weight net s.best_lengths ≡ s.bound →
      Fits net (outcome_of net s)
  unfolding outcome_of
  state-fits inside t z e =
      let most = (resource-capacity-within net q sound b inside).most in
      record {
        amounts-count = t.rows;
        lengths-count = z;
        flow = small s.flow (flow-below net (2 ^ 21) s.flow s.loads s.total t sound.counts.of-arcs.least
            (λ e l. sizes.load-high e (omega (arith, arcs-le net))));
        lengths = lengths-fit net s.best_lengths z (λ e l. (resource-capacity-within net q sound e l).least) (omega (arith, e, sizes.bound-high));
        answer =
            seven (outcome_of net s).answer
            (omega (arith, sizes.total-high))
            (omega (arith, most))
            (omega (arith, sizes.load-high b inside))
            (omega (arith, sizes.bound-high))
            (omega (arith, sizes.alpha-high))
            (omega (arith, sizes.count-high))
            (omega (arith, sizes.count-high, sizes.best-high));
        total = omega (arith, mul-le-mul sizes.total-high most);
        sizes = λ e l.
            let low : sizes_on net (amounts net s.flow) e ≤ 2 ^ 21 = omega (arith, t.within e l, sizes.load-high e (omega (arith, arcs-le net))) in
            omega (arith, mul-le-mul low most);
      }
