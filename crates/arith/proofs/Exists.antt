-- The test over an index: what it says when it passes, and when it does not; and its change when the test changes at one place.
-- Assumes nothing.
use mathlib.Core.Path.{◌≡◌, refl, sym, ap, ◌∙◌}
use mathlib.Core.Logic.{⊎_elim}
use mathlib.Core.Bool.{Bool, true, false, ◌||◌, false≢true, or-true, or-false}
use Prim.Native.Nat.{ℕ, zero, suc, ◌<◌}
use native.Mathlib.Nat.{le_refl, eq-or-lt_of_le, le_of_suc-le-suc}
use native.Mathlib.Omega.{arith}
use borrow.Author.Tests.{eqb-true, eqb-false}
use lib.Dec.{eqb}
use Rattle.arith.specs.Lists.{exists}

-- one more index, by the values of the test below it and at it
here-or-below :
    (n : ℕ) (f : ℕ → Bool) (b c : Bool) → f n ≡ c → (b ≡ true → (i : ℕ) × (i < n) × (f i ≡ true)) → (b || c) ≡ true → (i : ℕ) × (i < suc n) ×
    (f i ≡ true)
here-or-below n f true c e h t = let w = h refl in (w.0, omega (arith, w.1), w.2)
here-or-below n f false c e h t = (n, le_refl (suc n), e ∙ t)

pub exists-true : (n : ℕ) (f : ℕ → Bool) → exists n f ≡ true → (i : ℕ) × (i < n) × (f i ≡ true)
unfolding exists
exists-true zero f t = absurd (false≢true t)
exists-true (suc n) f t = here-or-below n f (exists n f) (f n) refl (exists-true n f) t

pub true-exists : (n : ℕ) (f : ℕ → Bool) (i : ℕ) → i < n → f i ≡ true → exists n f ≡ true
unfolding exists
true-exists zero f i l t = absurd (omega arith)
true-exists (suc n) f i l t =
    ⊎_elim
    (λ (e : i ≡ n). rw (sym (ap f e) ∙ t) (or-true (exists n f)))
    (λ (l : i < n). rw (true-exists n f i l t))
    (eq-or-lt_of_le (le_of_suc-le-suc l))

pub exists-false : (n : ℕ) (f : ℕ → Bool) → exists n f ≡ false → (i : ℕ) → i < n → f i ≡ false
exists-false n f t i l = by_value (f i) refl
  where
    by_value : (b : Bool) → f i ≡ b → f i ≡ false
    by_value true e = e ∙ (sym (true-exists n f i l e) ∙ t)
    by_value false e = e

-- No index passes.
pub none-exists : (n : ℕ) (f : ℕ → Bool) → ((i : ℕ) → i < n → f i ≡ false) → exists n f ≡ false
unfolding exists
none-exists zero f h = refl
none-exists (suc n) f h = rw (none-exists n f (λ i l. h i (omega arith)), h n (le_refl (suc n)))

-- Equal tests.
pub exists-cong : (n : ℕ) (f g : ℕ → Bool) → ((i : ℕ) → i < n → f i ≡ g i) → exists n f ≡ exists n g
unfolding exists
exists-cong zero f g h = refl
exists-cong (suc n) f g h = rw (exists-cong n f g (λ i l. h i (omega arith)), h n (le_refl (suc n)))

-- Two tests that agree but at one place k, where the second passes if the first does.
pub exists-change :
    (n : ℕ) (f g : ℕ → Bool) (k : ℕ) → k < n → ((i : ℕ) → i < n → (i ≡ k → ⊥) → g i ≡ f i) → (f k ≡ true → g k ≡ true) →
    exists n g ≡ (exists n f || g k)
exists-change n f g k l h up = by_value (g k) refl
  where
    lost : (b : Bool) → f k ≡ b → g k ≡ false → b ≡ false
    lost true e z = sym (up e) ∙ z
    lost false e z = refl

    agree : g k ≡ false → (i : ℕ) (b : Bool) → eqb i k ≡ b → i < n → g i ≡ f i
    agree z i true e b = let q : i ≡ k = eqb-true i k e in ap g q ∙ (z ∙ sym (ap f q ∙ lost (f k) refl z))
    agree z i false e b = h i b (eqb-false i k e)

    by_value : (b : Bool) → g k ≡ b → exists n g ≡ (exists n f || b)
    by_value true e = true-exists n g k l e ∙ sym (or-true (exists n f))
    by_value false e = exists-cong n g f (λ i b. agree e i (eqb i k) refl b) ∙ sym (or-false (exists n f))
