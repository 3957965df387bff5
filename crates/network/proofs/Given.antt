-- The limits that are given are the resources past the arcs. Assumes nothing.
use mathlib.Core.Path.{◌≡◌, refl, ◌∙◌}
use mathlib.Core.Bool.{Bool, true, false, cond, not}
use mathlib.Core.List.{List, [], ◌∷◌}
use Prim.Native.Nat.{ℕ, zero, suc, ◌+◌, ◌-◌, ◌≤◌, ◌<◌}
use native.Mathlib.Numerals.{add-one}
use native.Mathlib.Omega.{arith}
use borrow.Author.Tests.{ne_eqb}
use lib.Dec.{eqb}
use lib.ListN.{length, get_or, length-append, get_or-eq_default}
use Rattle.network.specs.Given.{given}
use Rattle.network.specs.Network.{Network, arcs, limit}
use Rattle.network.specs.Resources.{limits_below, place, resources}

one_more : (b : Bool) → cond b 0 1 ≤ 1
one_more true = omega arith
one_more false = omega arith

-- At most one for each number.
pub given-most : (xs : List ℕ) (n : ℕ) → given xs n ≤ n
unfolding given
given-most xs zero = omega arith
given-most xs (suc n) = omega (arith, given-most xs n, one_more (eqb (get_or xs n 0) 0))

-- One number more: it is 0, or it is not.
pub given-zero : (xs : List ℕ) (n : ℕ) → get_or xs n 0 ≡ 0 → given xs (n + 1) ≡ given xs n
unfolding given
given-zero xs n h = rw (add-one, h) (omega arith)

pub given-one : (xs : List ℕ) (n : ℕ) → (get_or xs n 0 ≡ 0 → ⊥) → given xs (n + 1) ≡ given xs n + 1
unfolding given
given-one xs n h = rw (add-one, ne_eqb (get_or xs n 0) 0 h) refl

-- The same numbers count alike,
pub given-same : (xs ys : List ℕ) (n : ℕ) → ((i : ℕ) → i < n → get_or xs i 0 ≡ get_or ys i 0) → given xs n ≡ given ys n
unfolding given
given-same xs ys zero h = refl
given-same xs ys (suc n) h = rw (given-same xs ys n (λ i l. h i (omega arith)), h n (omega arith))

-- and past the last of them nothing is counted.
past : (xs : List ℕ) (c k : ℕ) → length xs ≤ c → given xs (c + k) ≡ given xs c
unfolding given
past xs c zero h = let e : c + 0 ≡ c = omega arith in rw e
past xs c (suc k) h =
    let e : c + suc k ≡ suc (c + k) = omega arith in
    let z : get_or xs (c + k) 0 ≡ 0 = get_or-eq_default xs 0 {n = c + k} (omega arith) in
    rw (e, z) (omega (arith, past xs c k h))

pub given-past : (xs : List ℕ) (c n : ℕ) → length xs ≤ c → c ≤ n → given xs n ≡ given xs c
given-past xs c n h l =
    let e : n ≡ c + (n - c) = omega arith in
    rw e (past xs c (n - c) h)

-- A node's place among the limits
one : (b : Bool) (x : ℕ) → length (cond (not b) (x ∷ []) []) ≡ cond b 0 1
one true x = refl
one false x = refl

pub below-given : (net : Network) (v : ℕ) → length (limits_below net (suc v)) ≡ given net.limits v
unfolding limits_below given
below-given net zero = refl
below-given net (suc v) =
    let x = limit net (suc v) in
    length-append (limits_below net (suc v)) (cond (not (eqb x 0)) (x ∷ []) []) ∙
    rw (below-given net v, one (eqb x 0) x)

-- c limits are given, at most one for each node.
pub resources-given : (net : Network) (c : ℕ) → length net.limits ≤ c → c ≤ net.nodes → resources net ≡ arcs net + given net.limits c
unfolding resources place
resources-given net c h l = rw (below-given net net.nodes, given-past net.limits c net.nodes h l)
