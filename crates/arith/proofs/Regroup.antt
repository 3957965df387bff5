-- Regrouping a sum by place: items that each lie at one of the places 1 to n, summed item by item or place by place.
-- Assumes nothing.
use mathlib.Core.Path.{◌≡◌, refl, sym, ◌∙◌}
use mathlib.Core.Bool.{Bool, true, false, cond}
use Prim.Native.Nat.{ℕ, zero, suc, ◌*◌, ◌≤◌, ◌<◌}
use native.Mathlib.Nat.{suc_inj}
use native.Mathlib.Omega.{arith}
use borrow.Author.Tests.{eq-eqb, ne_eqb}
use lib.Dec.{eqb}
use Rattle.arith.specs.Sum.{sum}
use Rattle.arith.proofs.Sums.{sum-cong, sum-zero, sum-scale, sum-exchange, sum-change}

-- A factor goes inside a choice between x and nothing.
scale-cond : (b : Bool) (k x : ℕ) → k * cond b x 0 ≡ cond b (x * k) 0
scale-cond true k x = omega arith
scale-cond false k x = omega arith

-- Of the terms for the places 1 to n only that of k counts.
pub sum-pick : (n k : ℕ) (g : ℕ → ℕ) → 1 ≤ k → k ≤ n → sum n (λ i. cond (eqb k (suc i)) (g (suc i)) 0) ≡ g k
sum-pick n zero g low high = omega arith
sum-pick n (suc j) g low high =
    omega (
      arith,
      sum-zero n,
      sum-change
          n
          (λ i. 0)
          (λ i. cond (eqb (suc j) (suc i)) (g (suc i)) 0)
          j
          (g (suc j))
          high
          (λ i l ne. rw (ne_eqb (suc j) (suc i) (λ (e : suc j ≡ suc i). ne (sym (suc_inj e)))))
          (rw (eq-eqb (suc j) (suc j) refl) (omega arith)),
    )

-- Amounts f e at places k e, each times its place's weight w: item by item, or place by place.
pub sum-regroup :
    (m n : ℕ) (k f w : ℕ → ℕ) → ((e : ℕ) → e < m → 1 ≤ k e) → ((e : ℕ) → e < m → k e ≤ n) → sum m (λ e. f e * w (k e)) ≡
    sum n (λ i. w (suc i) * sum m (λ e. cond (eqb (k e) (suc i)) (f e) 0))
sum-regroup m n k f w low high =
    sym
    (sum-cong n (λ i. w (suc i) * sum m (λ e. share i e)) (λ i. sum m (λ e. w (suc i) * share i e)) (λ i l. sym (sum-scale m (w (suc i)) (share i))) ∙
    sum-exchange n m (λ i e. w (suc i) * share i e) ∙
    sum-cong m (λ e. sum n (λ i. w (suc i) * share i e)) (λ e. f e * w (k e)) one)
  where
    share : ℕ → ℕ → ℕ
    share i e = cond (eqb (k e) (suc i)) (f e) 0

    one : (e : ℕ) → e < m → sum n (λ i. w (suc i) * share i e) ≡ f e * w (k e)
    one e l =
        sum-cong
        n
        (λ i. w (suc i) * share i e)
        (λ i. cond (eqb (k e) (suc i)) (f e * w (suc i)) 0)
        (λ i b. scale-cond (eqb (k e) (suc i)) (w (suc i)) (f e)) ∙
        sum-pick n (k e) (λ v. f e * w v) (low e l) (high e l)
