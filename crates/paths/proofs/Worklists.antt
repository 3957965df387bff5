-- The list of a search: how it begins, that it has no more than the nodes, and what is on it when it is empty and when it is not.
-- Assumes nothing.
use mathlib.Core.Path.{◌≡◌, sym, ◌∙◌}
use mathlib.Core.Logic.{⊎_elim}
use mathlib.Core.List.{List}
use Prim.Native.Nat.{ℕ, zero, suc, ◌≤◌, ◌<◌}
use native.Mathlib.Nat.{eq-or-lt_of_le}
use native.Mathlib.Omega.{arith}
use lib.ListN.{get_or, replicate, length-replicate, get_or-replicate}
use Rattle.arith.specs.Sum.{sum}
use Rattle.arith.proofs.Order.{le-or-lt}
use Rattle.arith.proofs.Sums.{sum-cong, sum-zero, sum-const, sum-le, sum_lt}
use Rattle.paths.specs.Worklist.{Worklist}

-- Zeros are an empty list.
pub worklist-zeros : (n size : ℕ) → n < size → Worklist n (replicate size 0) 0
worklist-zeros n size b =
    record {
      room = omega (arith, length-replicate {A = ℕ} size 0);
      flags = λ v c. omega (arith, zeros v c);
      count = sym (sum-cong n (λ i. get_or (replicate size 0) (suc i) 0) (λ i. 0) (λ i c. zeros (suc i) c) ∙ sum-zero n);
    }
  where
    zeros : (v : ℕ) → v ≤ n → get_or (replicate {A = ℕ} size 0) v 0 ≡ 0
    zeros v c = get_or-replicate size v 0 0 (omega arith)

-- A sum that is not 0 has a summand that is not.
some-summand : (n : ℕ) (f : ℕ → ℕ) → 1 ≤ sum n f → (i : ℕ) × (i < n) × (1 ≤ f i)
unfolding sum
some-summand zero f h = absurd (omega arith)
some-summand (suc n) f h =
    ⊎_elim
    (λ (b : 1 ≤ f n). (n, omega arith, b))
    (λ (b : f n < 1). let (i, c, g) = some-summand n f (omega arith) in (i, omega arith, g))
    (le-or-lt 1 (f n))

module _ {n : ℕ} {listed : List ℕ} {size : ℕ} (L : Worklist n listed size) where
  -- There are no more on it than nodes.
  pub worklist-within : size ≤ n
  worklist-within =
      omega (
        arith,
        L.count,
        sum-const n 1,
        sum-le n (λ i. get_or listed (suc i) 0) (λ i. 1) (λ i b. L.flags (suc i) b),
      )

  -- A flag is 0 or 1.
  pub worklist-flag : (v : ℕ) → v ≤ n → (get_or listed v 0 ≡ 0 → ⊥) → get_or listed v 0 ≡ 1
  worklist-flag v b h =
      ⊎_elim
      (λ (q : 0 ≡ get_or listed v 0). absurd (h (sym q)))
      (λ (c : 0 < get_or listed v 0). omega (arith, L.flags v b))
      (eq-or-lt_of_le (omega arith))

  -- On an empty list there is no node,
  pub worklist-none : size ≤ 0 → (v : ℕ) → (1 ≤ v) × (v ≤ n) → get_or listed v 0 ≡ 0
  worklist-none q zero node = absurd (omega arith)
  worklist-none q (suc k) node =
      ⊎_elim
      (λ (h : 0 ≡ get_or listed (suc k) 0). sym h)
      (λ (h : 0 < get_or listed (suc k) 0). absurd (omega (
        arith,
        L.count,
        sum-zero n,
        sum_lt n (λ i. 0) (λ i. get_or listed (suc i) 0) k node.1 (λ i c. omega arith) h,
      )))
      (eq-or-lt_of_le (omega arith))

  -- and on any other there is one.
  pub worklist-some : 0 < size → (v : ℕ) × ((1 ≤ v) × (v ≤ n)) × (1 ≤ get_or listed v 0)
  worklist-some h =
      let (i, b, g) = some-summand n (λ i. get_or listed (suc i) 0) (omega (arith, L.count)) in
      (suc i, (omega arith, b), g)
