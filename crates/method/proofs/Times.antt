-- How often a list has a number, and what adding a draw at each place of a list does to a table.
-- Assumes nothing.
use mathlib.Core.Path.{◌≡◌, refl, sym, ap, ◌∙◌}
use mathlib.Core.Bool.{Bool, true, false, cond}
use mathlib.Core.List.{List, [], ◌∷◌}
use Prim.Native.Nat.{ℕ, ◌+◌, ◌*◌, ◌<◌}
use native.Mathlib.Omega.{arith}
use borrow.Author.Tests.{eqb-true, eqb-false, eq-eqb, ne_eqb}
use lib.Dec.{eqb}
use lib.ListN.{length, get_or, set, length-set}
use lib.Seq.{get_or-set_same, get_or-set_other}
use Rattle.arith.specs.Sum.{sum}
use Rattle.arith.specs.Times.{times}
use Rattle.arith.proofs.Sums.{sum-change, sum-zero, sum-cong, sum-add}
use Rattle.method.specs.Iteration.{update}

-- All members are below n.
pub data Below (n : ℕ) : List ℕ → Type 0 where
  none : Below n []
  also : {x : ℕ} {p : List ℕ} → x < n → Below n p → Below n (x ∷ p)

-- An update keeps the table's length.
pub update-length : (f : ℕ → ℕ → ℕ) (p xs : List ℕ) → length (update f p xs) ≡ length xs
unfolding update
update-length f [] xs = refl
update-length f (e ∷ p) xs = update-length f p (set xs e (f e (get_or xs e 0))) ∙ length-set xs e (f e (get_or xs e 0))

-- Whether e stands at j, as a number.
abbrev pub once : ℕ → ℕ → ℕ
once j e = cond (eqb e j) 1 0

-- Adding g at one place.
pub set-adds : (g : ℕ) (xs : List ℕ) (e j : ℕ) → e < length xs → get_or (set xs e (get_or xs e 0 + g)) j 0 ≡ get_or xs j 0 + once j e * g
set-adds g xs e j l = go (eqb e j) refl
  where
    go : (t : Bool) → eqb e j ≡ t → get_or (set xs e (get_or xs e 0 + g)) j 0 ≡ get_or xs j 0 + cond t 1 0 * g
    go true q =
        let h : e ≡ j = eqb-true e j q in
        rw (← h) (omega (arith, get_or-set_same xs e (get_or xs e 0 + g) 0 l))
    go false q = omega (arith, get_or-set_other xs e j (get_or xs e 0 + g) 0 (λ (h : j ≡ e). eqb-false e j q (sym h)))

-- Adding g at each place of p adds g to the number at j as often as j stands in p.
pub update-adds : (g : ℕ) (p xs : List ℕ) (j : ℕ) → Below (length xs) p → get_or (update (λ e x. x + g) p xs) j 0 ≡ get_or xs j 0 + times j p * g
unfolding update times
update-adds g [] xs j b = omega arith
update-adds g (e ∷ p) xs j (also l b) =
    let ys : List ℕ = set xs e (get_or xs e 0 + g) in
    omega (
      arith,
      update-adds g p ys j (rw (length-set xs e (get_or xs e 0 + g)) b),
      set-adds g xs e j l,
    )

-- The numbers f e of the members of a list, added up.
unfoldable pub along : (ℕ → ℕ) → List ℕ → ℕ
along f [] = 0
along f (e ∷ p) = f e + along f p

pub once-same : (e : ℕ) → once e e ≡ 1
once-same e = ap (λ t. cond t 1 0) (eq-eqb e e refl)

pub once-other : (e j : ℕ) → (j ≡ e → ⊥) → once j e ≡ 0
once-other e j n = ap (λ t. cond t 1 0) (ne_eqb e j (λ h. n (sym h)))

sum-once : (m : ℕ) (f : ℕ → ℕ) (e : ℕ) → e < m → sum m (λ j. once j e * f j) ≡ f e
sum-once m f e l =
    sum-change m (λ j. 0) (λ j. once j e * f j) e (f e) l (λ i b n. rw (once-other e i n) (omega arith)) (rw (once-same e) (omega arith)) ∙
    omega (arith, sum-zero m)

-- A sum over all places that counts each as often as it stands in p is the sum along p.
pub sum-times : (m : ℕ) (f : ℕ → ℕ) (p : List ℕ) → Below m p → sum m (λ j. times j p * f j) ≡ along f p
unfolding times along
sum-times m f [] b = sum-cong m (λ j. 0 * f j) (λ j. 0) (λ i l. omega arith) ∙ sum-zero m
sum-times m f (e ∷ p) (also l b) =
    sum-cong m (λ j. (once j e + times j p) * f j) (λ j. once j e * f j + times j p * f j) (λ i h. omega arith) ∙
    (sum-add m (λ j. once j e * f j) (λ j. times j p * f j) ∙ omega (arith, sum-once m f e l, sum-times m f p b))
