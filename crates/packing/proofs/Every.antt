-- A test that is computed at each number below a bound, and what its success says.
-- Assumes nothing.
use mathlib.Core.Path.{◌≡◌, subst, sym}
use mathlib.Core.Bool.{Bool, true, false}
use mathlib.Core.Logic.{⊎_elim}
use Prim.Native.Nat.{ℕ, zero, suc, ◌<◌}
use native.Mathlib.Nat.{eq-or-lt_of_le, le_of_suc-le-suc, not-suc-le-zero}
use lib.Dec.{T}

-- both tests succeed
abbrev pub both : Bool → Bool → Bool
both true b = b
both false b = false

-- what both tests say of each
pub left : (a b : Bool) → T (both a b) → T a
left true b t = tt
left false b t = t

pub right : (a b : Bool) → T (both a b) → T b
right true b t = t
right false b t = absurd t

-- the test succeeds at 0, 1, .., n - 1
abbrev pub every : (ℕ → Bool) → ℕ → Bool
every f zero = true
every f (suc n) = both (every f n) (f n)

-- If it does, it succeeds at any of them.
pub every-at : (f : ℕ → Bool) (n : ℕ) → T (every f n) → (i : ℕ) → i < n → T (f i)
every-at f zero t i l = absurd (not-suc-le-zero l)
every-at f (suc n) t i l =
    ⊎_elim (λ (e : i ≡ n). subst (λ (k : ℕ). T (f k)) (sym e) (right (every f n) (f n) t))
    (λ (b : i < n). every-at f n (left (every f n) (f n) t) i b)
    (eq-or-lt_of_le (le_of_suc-le-suc l))
