-- How large the amounts of a table become when a draw is added along a path.
-- Assumes nothing.
use mathlib.Core.List.{List, [], ◌∷◌}
use Prim.Native.Nat.{ℕ, zero, suc, ◌+◌, ◌*◌, ◌≤◌}
use native.Mathlib.Nat.{le_refl, mul-le-mul}
use native.Mathlib.Omega.{arith}
use lib.ListN.{length, get_or, set, take, length-take}
use Rattle.method.specs.Iteration.{update}
use Rattle.tables.proofs.Followed.{Following}

-- Added at one place, a draw raises each amount by no more than itself.
set-most : (g : ℕ) (xs : List ℕ) (e k : ℕ) → get_or (set xs e (get_or xs e 0 + g)) k 0 ≤ get_or xs k 0 + g
set-most g [] e k = omega arith
set-most g (x ∷ xs) zero zero = le_refl (x + g)
set-most g (x ∷ xs) zero (suc k) = omega arith
set-most g (x ∷ xs) (suc e) zero = omega arith
set-most g (x ∷ xs) (suc e) (suc k) = set-most g xs e k

-- Along a path the amounts rise by at most g for each of its arcs.
pub adds-most : (g : ℕ) (p xs : List ℕ) (k : ℕ) → get_or (update (λ e x. x + g) p xs) k 0 ≤ get_or xs k 0 + length p * g
unfolding update
adds-most g [] xs k = omega arith
adds-most g (e ∷ p) xs k = omega (arith, adds-most g p (set xs e (get_or xs e 0 + g)) k, set-most g xs e k)

-- The same on the way along a path of at most n arcs, for a draw of at most d.
pub follow-most :
    {g : ℕ} {p : List ℕ} {j : ℕ} {xs ys : List ℕ} (n d : ℕ) → Following (λ e x. x + g) p j xs ys → length p ≤ n → g ≤ d →
    (k : ℕ) → get_or ys k 0 ≤ get_or xs k 0 + n * d
follow-most {g} {p} {j} {xs} n d h l b k =
    let few : length (take j p) ≤ n = omega (arith, length-take j p) in
    rw h.now (omega (arith, adds-most g (take j p) xs k, mul-le-mul few b))
