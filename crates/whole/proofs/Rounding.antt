-- Each commodity's amount rounded down: what it and the sum of all come to. Assumes nothing.
use mathlib.Core.Path.{◌≡◌, sym, ap, ◌∙◌}
use Prim.Native.Nat.{ℕ, zero, suc, ◌+◌, ◌*◌, ◌/◌, ◌%◌, ◌≤◌, ◌<◌, ◌^◌}
use native.Mathlib.Nat.{add-zero, div-add-mod', div-le_self, mod-le, mod-lt, mul-le-mul_right, lt_of_le_of_lt}
use native.Mathlib.Omega.{arith}
use lib.Dec.{lit≤}
use lib.ListN.{get_or}
use Rattle.arith.specs.Sum.{sum}
use Rattle.arith.proofs.Sums.{sum-cong, sum-zero, term-le-sum}
use Rattle.network.specs.Flow.{outflow, inflow, leaving, entering}
use Rattle.network.specs.Network.{Network, commodities, source}
use Rattle.method.specs.Answer.{Outcome, amounts, numbers_of, unjoined}
use Rattle.method.specs.Guarantee.{Guarantee}
use Rattle.whole.specs.Rounded.{whole_of, remainder_of, Rounded}
use Rattle.whole.specs.Whole.{carried, totes_of}
use Rattle.whole.proofs.Parted.{parted-at}

-- Quotients and remainders of n amounts, and their sums.
module _ (c y : ℕ) (x : ℕ → ℕ) (some : 0 < y) where
  parted-sum : (n : ℕ) → sum n (λ i. x i * c / y) * y + sum n (λ i. x i * c % y) ≡ sum n x * c
  unfolding sum
  parted-sum zero = omega arith
  parted-sum (suc n) = omega (arith, parted-sum n, div-add-mod' (x n * c) y)

  remainders-below : (n : ℕ) → sum n (λ i. x i * c % y) + n ≤ n * y
  unfolding sum
  remainders-below zero = omega arith
  remainders-below (suc n) = omega (arith, remainders-below n, mod-lt (x n * c) some)

module _ (net : Network) (q : ℕ) (o : Outcome) (g : Guarantee net q o) where
  abbrev amount : ℕ → ℕ
  amount = carried net (amounts net o.flow)

  -- Nothing enters its source, so it is what leaves it.
  pub amount-leaves : (i : ℕ) → i < commodities net → outflow net (amounts net o.flow i) (source net i) ≡ amount i
  unfolding carried
  amount-leaves i l = omega (arith, g.sources i l)

  amounts-all : sum (commodities net) amount ≡ o.answer.total
  unfolding leaving entering
  amounts-all =
      omega (
        arith,
        g.total,
        sum-cong (commodities net) (λ i. outflow net (amounts net o.flow i) (source net i)) amount amount-leaves,
        sum-cong (commodities net) (λ i. inflow net (amounts net o.flow i) (source net i)) (λ i. 0) g.sources,
        sum-zero (commodities net),
      )

  -- So it takes eight bytes, also times c(b).
  amount-most : (i : ℕ) → i < commodities net → amount i ≤ o.answer.total
  amount-most i l = omega (arith, term-le-sum (commodities net) amount i l, amounts-all)

  pub amount-fits : (i : ℕ) → i < commodities net → amount i < 2 ^ 64
  unfolding numbers_of
  amount-fits i l = lt_of_le_of_lt (amount-most i l) (g.fits.answer 0)

  pub scaled_fits : (i : ℕ) → i < commodities net → amount i * o.answer.capacity < 2 ^ 64
  scaled_fits i l = lt_of_le_of_lt (mul-le-mul_right o.answer.capacity (amount-most i l)) g.fits.total

  -- its two numbers
  whole-at : (i : ℕ) → i < commodities net → whole_of net o i ≡ amount i * o.answer.capacity / o.answer.load
  whole-at i l =
      ap (λ j. get_or (totes_of net o) j 0) (sym (add-zero (2 * i))) ∙
      parted-at o.answer.capacity o.answer.load amount (commodities net) i 0 l (lit≤ tt)

  remainder-at : (i : ℕ) → i < commodities net → remainder_of net o i ≡ amount i * o.answer.capacity % o.answer.load
  remainder-at i l = parted-at o.answer.capacity o.answer.load amount (commodities net) i 1 l (lit≤ tt)

  nothing : (i : ℕ) → i < commodities net → amount i ≡ 0 → (whole_of net o i ≡ 0) × (remainder_of net o i ≡ 0)
  nothing i l e =
      let none = ap (λ x. x * o.answer.capacity) e in (
        omega (arith, whole-at i l, none, div-le_self (amount i * o.answer.capacity) o.answer.load),
        omega (arith, remainder-at i l, none, mod-le (amount i * o.answer.capacity) o.answer.load),
      )

  without : o ≡ unjoined net → (i : ℕ) → i < commodities net → amount i ≡ 0
  unfolding unjoined
  without e i l = omega (arith, amount-most i l, ap (λ p. p.answer.total) e)

  pub rounded : 1 ≤ commodities net → Rounded net o
  rounded some =
      let c : ℕ = o.answer.capacity in
      let y : ℕ = o.answer.load in
      let k : ℕ = commodities net in
      let wholes = ap (λ w. w * y) (sum-cong k (whole_of net o) (λ i. amount i * c / y) whole-at) in
      let all-parts = parted-sum c y amount g.some-load k in
      let scaled-total = ap (λ x. x * c) amounts-all in
      record {
        parts = λ i l. omega (arith, div-add-mod' (amount i * c) y, ap (λ w. w * y) (whole-at i l), remainder-at i l);
        below = λ i l. omega (arith, mod-lt (amount i * c) g.some-load, remainder-at i l);
        idle = nothing;
        none-joined = without;
        all = amounts-all;
        most = omega (arith, wholes, all-parts, scaled-total);
        least = omega (arith, wholes, all-parts, scaled-total, remainders-below c y amount g.some-load k, some);
      }
