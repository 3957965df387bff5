-- A number stored at one place of a table, no smaller than what was there: what becomes of D and of a test over all places.
-- Assumes nothing.
use mathlib.Core.Path.{◌≡◌, ap, ◌∙◌}
use mathlib.Core.Bool.{◌||◌}
use mathlib.Core.List.{List}
use Prim.Native.Nat.{ℕ, ◌+◌, ◌*◌, ◌-◌, ◌≤◌, ◌<◌}
use native.Mathlib.Nat.{le_trans}
use native.Mathlib.Omega.{arith}
use borrow.Author.Tests.{leb-true, le-leb}
use lib.Dec.{leb}
use lib.ListN.{length, get_or, set, length-set}
use lib.Seq.{get_or-set_same, get_or-set_other}
use Rattle.arith.specs.Lists.{exists}
use Rattle.arith.proofs.Exists.{exists-change}
use Rattle.arith.proofs.Sums.{sum-change}
use Rattle.tables.specs.Tables.{weight_of}

risen : (c x v : ℕ) → x ≤ v → c * v ≡ c * x + c * (v - x)
risen c x v h = let e : v ≡ x + (v - x) = omega arith in omega (arith, ap (λ t. c * t) e)

-- D grows by the capacity times the growth.
pub set-weight :
    (capacities xs : List ℕ) (k v : ℕ) → length xs ≡ length capacities → k < length capacities → get_or xs k 0 ≤ v →
    weight_of capacities (set xs k v) ≡ weight_of capacities xs + get_or capacities k 0 * (v - get_or xs k 0)
set-weight capacities xs k v same l up =
    sum-change (length capacities) (λ e. get_or capacities e 0 * get_or xs e 0) (λ e. get_or capacities e 0 * get_or (set xs k v) e 0) k
    (get_or capacities k 0 * (v - get_or xs k 0)) l (λ i b n. ap (λ t. get_or capacities i 0 * t) (get_or-set_other xs k i v 0 n))
    (ap (λ t. get_or capacities k 0 * t) (get_or-set_same xs k v 0 (omega arith)) ∙ risen (get_or capacities k 0) (get_or xs k 0) v up)

-- Some number is at its limit now if one was before, or if the new one is.
pub set-exists :
    (limit : ℕ → ℕ) (xs : List ℕ) (k v : ℕ) → k < length xs → get_or xs k 0 ≤ v →
    exists (length (set xs k v)) (λ e. leb (limit e) (get_or (set xs k v) e 0)) ≡
    (exists (length xs) (λ e. leb (limit e) (get_or xs e 0)) || leb (limit k) v)
set-exists limit xs k v l up =
    let stored : get_or (set xs k v) k 0 ≡ v = get_or-set_same xs k v 0 l in
    ap (λ n. exists n (λ e. leb (limit e) (get_or (set xs k v) e 0))) (length-set xs k v) ∙
    (exists-change (length xs) (λ e. leb (limit e) (get_or xs e 0)) (λ e. leb (limit e) (get_or (set xs k v) e 0)) k l
    (λ i b n. ap (leb (limit i)) (get_or-set_other xs k i v 0 n))
    (λ h. rw stored (le-leb (limit k) v (le_trans (leb-true (limit k) (get_or xs k 0) h) up))) ∙
    ap (λ t. exists (length xs) (λ e. leb (limit e) (get_or xs e 0)) || leb (limit k) t) stored)
