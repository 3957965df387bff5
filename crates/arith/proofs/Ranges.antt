-- The numbers in order, 0 to n - 1 or n of them from i: exactly these are the members.
-- Assumes nothing.
use mathlib.Core.Path.{◌≡◌, refl, sym, ap, ◌∙◌}
use mathlib.Core.Logic.{⊎_elim}
use mathlib.Core.List.{map}
use Prim.Native.Nat.{ℕ, zero, suc, ◌+◌, ◌≤◌, ◌<◌}
use native.Mathlib.Nat.{eq-or-lt_of_le, le_of_suc-le-suc, add-zero, add-suc, suc-add, zero-add}
use native.Mathlib.Omega.{arith}
use lib.ListN.{length, get_or, length-map}
use Rattle.arith.specs.Lists.{up_from, up_to}
use Rattle.arith.specs.Member.{Member, first, later, no_member, first-or-later}

pub length-up_from : (i n : ℕ) → length (up_from i n) ≡ n
unfolding up_from
length-up_from i zero = refl
length-up_from i (suc n) = ap suc (length-up_from (suc i) n)

pub member-up_from : (j i n : ℕ) → Member j (up_from i n) → (i ≤ j) × (j < i + n)
unfolding up_from
member-up_from j i zero m = absurd (no_member m)
member-up_from j i (suc n) m =
    ⊎_elim
    (λ (e : j ≡ i). omega arith)
    (λ (m : Member j (up_from (suc i) n)). omega (arith, member-up_from j (suc i) n m))
    (first-or-later m)

pub up_from-member : (j i n : ℕ) → i ≤ j → j < i + n → Member j (up_from i n)
unfolding up_from
up_from-member j i zero a b = absurd (omega arith)
up_from-member j i (suc n) a b =
    ⊎_elim
    (λ (e : i ≡ j). first (sym e))
    (λ (l : i < j). later (up_from-member j (suc i) n l (omega arith)))
    (eq-or-lt_of_le a)

pub member-up_to : (j n : ℕ) → Member j (up_to n) → j < n
unfolding up_to
member-up_to j n m = omega (arith, member-up_from j 0 n m)

pub up_to-member : (j n : ℕ) → j < n → Member j (up_to n)
unfolding up_to
up_to-member j n l = up_from-member j 0 n (omega arith) (omega arith)

-- f of the numbers in order, read at a place.
pub get_or-map-up_from : (f : ℕ → ℕ) (i n j : ℕ) → j < n → get_or (map f (up_from i n)) j 0 ≡ f (i + j)
unfolding up_from
get_or-map-up_from f i zero j l = absurd (omega arith)
get_or-map-up_from f i (suc n) zero l = ap f (sym (add-zero i))
get_or-map-up_from f i (suc n) (suc j) l = get_or-map-up_from f (suc i) n j (le_of_suc-le-suc l) ∙ ap f (suc-add i j ∙ sym (add-suc i j))

pub get_or-map-up_to : (f : ℕ → ℕ) (n j : ℕ) → j < n → get_or (map f (up_to n)) j 0 ≡ f j
unfolding up_to
get_or-map-up_to f n j l = get_or-map-up_from f 0 n j l ∙ ap f (zero-add j)

pub length-map-up_to : (f : ℕ → ℕ) (n : ℕ) → length (map f (up_to n)) ≡ n
unfolding up_to
length-map-up_to f n = length-map (up_from 0 n) f ∙ length-up_from 0 n
