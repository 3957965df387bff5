-- One computed test for all entries of a list, and what it tells of each.
-- Assumes nothing.
use mathlib.Core.Bool.{Bool, true, false, ◌&&◌, ◌||◌}
use mathlib.Core.List.{List, [], ◌∷◌}
use mathlib.Core.Logic.{◌⊎◌, inl, inr}
use Prim.Native.Nat.{ℕ, zero, suc, ◌+◌, ◌<◌}
use native.Mathlib.Nat.{add-zero, add-suc, suc-add, le_of_suc-le-suc, not-suc-le-zero}
use lib.Dec.{T}
use lib.ListN.{length, get_or}
use Rattle.arith.proofs.Same.{and_parts}

pub or_cases : (a b : Bool) → T (a || b) → T a ⊎ T b
or_cases true b t = inl tt
or_cases false b t = inr t

-- The test passes at each entry, which it is given with its place; the first place is i.
abbrev pub every : {A : Type 0} → (ℕ → A → Bool) → ℕ → List A → Bool
every f i [] = true
every f i (x ∷ xs) = f i x && every f (suc i) xs

-- So it passes at the entry at k, with its place. (Past the end the entry is d.)
pub at_every : {A : Type 0} (f : ℕ → A → Bool) (i : ℕ) (xs : List A) (d : A) → T (every f i xs) → (k : ℕ) → k < length xs → T (f (i + k) (get_or xs k d))
at_every f i [] d t k h = absurd (not-suc-le-zero h)
at_every f i (x ∷ xs) d t zero h = rw add-zero (and_parts (f i x) (every f (suc i) xs) t).0
at_every f i (x ∷ xs) d t (suc k) h =
    rw (add-suc, ← suc-add i k) (at_every f (suc i) xs d (and_parts (f i x) (every f (suc i) xs) t).1 k (le_of_suc-le-suc h))
