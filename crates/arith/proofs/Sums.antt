-- Laws of sums over an index: equal terms, addition, scaling, comparison, exchange of two sums, change at one place.
-- Assumes nothing.
use mathlib.Core.Path.{◌≡◌, refl, sym, ap}
use mathlib.Core.Logic.{⊎_elim}
use Prim.Native.Nat.{ℕ, zero, suc, ◌+◌, ◌*◌, ◌≤◌, ◌<◌}
use native.Mathlib.Nat.{le_refl, le_antisymm, eq-or-lt_of_le, le_of_suc-le-suc}
use native.Mathlib.Omega.{arith}
use Rattle.arith.specs.Sum.{sum}

-- Equal terms have equal sums.
pub sum-cong : (n : ℕ) (f g : ℕ → ℕ) → ((i : ℕ) → i < n → f i ≡ g i) → sum n f ≡ sum n g
unfolding sum
sum-cong zero f g h = refl
sum-cong (suc n) f g h = omega (arith, sum-cong n f g (λ i l. h i (omega arith)), h n (le_refl (suc n)))

pub sum-zero : (n : ℕ) → sum n (λ i. 0) ≡ 0
unfolding sum
sum-zero zero = refl
sum-zero (suc n) = omega (arith, sum-zero n)

pub sum-const : (n k : ℕ) → sum n (λ i. k) ≡ n * k
unfolding sum
sum-const zero k = omega arith
sum-const (suc n) k = omega (arith, sum-const n k)

-- The first term apart.
pub sum_first : (n : ℕ) (f : ℕ → ℕ) → sum (suc n) f ≡ f 0 + sum n (λ i. f (suc i))
unfolding sum
sum_first zero f = omega arith
sum_first (suc n) f = omega (arith, sum_first n f)

pub sum-add : (n : ℕ) (f g : ℕ → ℕ) → sum n (λ i. f i + g i) ≡ sum n f + sum n g
unfolding sum
sum-add zero f g = refl
sum-add (suc n) f g = omega (arith, sum-add n f g)

pub sum-scale : (n k : ℕ) (f : ℕ → ℕ) → sum n (λ i. k * f i) ≡ k * sum n f
unfolding sum
sum-scale zero k f = omega arith
sum-scale (suc n) k f = omega (arith, sum-scale n k f)

pub sum-le : (n : ℕ) (f g : ℕ → ℕ) → ((i : ℕ) → i < n → f i ≤ g i) → sum n f ≤ sum n g
unfolding sum
sum-le zero f g h = le_refl 0
sum-le (suc n) f g h = omega (arith, sum-le n f g (λ i l. h i (omega arith)), h n (le_refl (suc n)))

-- A sum falls where no term grows and one falls.
pub sum_lt : (n : ℕ) (f g : ℕ → ℕ) (k : ℕ) → k < n → ((i : ℕ) → i < n → f i ≤ g i) → f k < g k → sum n f < sum n g
unfolding sum
sum_lt zero f g k l h s = omega arith
sum_lt (suc n) f g k l h s =
    ⊎_elim
    (λ (e : k ≡ n). omega (arith, ap f e, ap g e, sum-le n f g (λ i b. h i (omega arith))))
    (λ (b : k < n). omega (arith, sum_lt n f g k b (λ i d. h i (omega arith)) s, h n (le_refl (suc n))))
    (eq-or-lt_of_le (le_of_suc-le-suc l))

-- A term is at most its sum.
pub term-le-sum : (n : ℕ) (f : ℕ → ℕ) (i : ℕ) → i < n → f i ≤ sum n f
unfolding sum
term-le-sum zero f i l = omega arith
term-le-sum (suc n) f i l =
    ⊎_elim (λ (e : i ≡ n). omega (arith, ap f e)) (λ (l : i < n). omega (arith, term-le-sum n f i l)) (eq-or-lt_of_le (le_of_suc-le-suc l))

-- The first terms are at most all of them.
pub sum-part : (j n : ℕ) (f : ℕ → ℕ) → j ≤ n → sum j f ≤ sum n f
unfolding sum
sum-part j zero f h = rw (le_antisymm h (omega arith)) (le_refl _)
sum-part j (suc n) f h =
    ⊎_elim (λ (e : j ≡ suc n). rw e (le_refl _)) (λ (l : j < suc n). omega (arith, sum-part j n f (omega arith))) (eq-or-lt_of_le h)

-- Exchange of two sums.
pub sum-exchange : (n m : ℕ) (f : ℕ → ℕ → ℕ) → sum n (λ i. sum m (λ j. f i j)) ≡ sum m (λ j. sum n (λ i. f i j))
unfolding sum
sum-exchange zero m f = sym (sum-zero m)
sum-exchange (suc n) m f = omega (arith, sum-exchange n m f, sum-add m (λ j. sum n (λ i. f i j)) (λ j. f n j))

-- Two families that agree but at one place k: their sums differ as their terms there.
pub sum-swap : (n : ℕ) (f g : ℕ → ℕ) (k : ℕ) → k < n → ((i : ℕ) → i < n → (i ≡ k → ⊥) → g i ≡ f i) → sum n g + f k ≡ sum n f + g k
unfolding sum
sum-swap zero f g k l h = omega arith
sum-swap (suc n) f g k l h =
    ⊎_elim
    (λ (q : k ≡ n). omega (
      arith,
      sum-cong n g f (λ i b. h i (omega arith) (λ (r : i ≡ k). omega (arith, r, q))),
      ap g q,
      ap f q,
    ))
    (λ (b : k < n). omega (
      arith,
      sum-swap n f g k b (λ i l ne. h i (omega arith) ne),
      h n (le_refl (suc n)) (λ (r : n ≡ k). omega (arith, r, b)),
    ))
    (eq-or-lt_of_le (le_of_suc-le-suc l))

-- .. where the second is larger by d.
pub sum-change : (n : ℕ) (f g : ℕ → ℕ) (k d : ℕ) → k < n → ((i : ℕ) → i < n → (i ≡ k → ⊥) → g i ≡ f i) → g k ≡ f k + d → sum n g ≡ sum n f + d
sum-change n f g k d l h e = omega (arith, sum-swap n f g k l h)
