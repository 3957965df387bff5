-- An update at each place of a list changes a place that stands there once by one step, and leaves the others.
-- Assumes nothing.
use mathlib.Core.Path.{◌≡◌, refl, sym, ap, ◌∙◌}
use mathlib.Core.Bool.{Bool, true, false, cond}
use mathlib.Core.List.{List, [], ◌∷◌}
use Prim.Native.Nat.{ℕ, ◌+◌, ◌<◌}
use native.Mathlib.Omega.{arith}
use borrow.Author.Tests.{eqb-true, eqb-false}
use lib.Dec.{eqb}
use lib.ListN.{length, get_or, set, length-set}
use lib.Seq.{get_or-set_same, get_or-set_other}
use Rattle.method.specs.Iteration.{update}
use Rattle.arith.specs.Times.{times}

pub update_other : (f : ℕ → ℕ → ℕ) (p xs : List ℕ) (j : ℕ) → times j p ≡ 0 → get_or (update f p xs) j 0 ≡ get_or xs j 0
unfolding update times
update_other f [] xs j h = refl
update_other f (e ∷ p) xs j h = go (eqb e j) refl h (update_other f p (set xs e (f e (get_or xs e 0))) j)
  where
    ys : List ℕ
    ys = set xs e (f e (get_or xs e 0))

    go : (t : Bool) → eqb e j ≡ t → cond t 1 0 + times j p ≡ 0 → (times j p ≡ 0 → get_or (update f p ys) j 0 ≡ get_or ys j 0) →
        get_or (update f p ys) j 0 ≡ get_or xs j 0
    go true q h rest = absurd (omega arith)
    go false q h rest = rest (omega arith) ∙ get_or-set_other xs e j (f e (get_or xs e 0)) 0 (λ r. eqb-false e j q (sym r))

pub update-once : (f : ℕ → ℕ → ℕ) (p xs : List ℕ) (j : ℕ) → j < length xs → times j p ≡ 1 → get_or (update f p xs) j 0 ≡ f j (get_or xs j 0)
unfolding update times
update-once f [] xs j l h = absurd (omega arith)
update-once f (e ∷ p) xs j l h =
    go (eqb e j) refl h (update_other f p (set xs e (f e (get_or xs e 0))) j)
    (update-once f p (set xs e (f e (get_or xs e 0))) j (rw (length-set xs e (f e (get_or xs e 0))) l))
  where
    ys : List ℕ
    ys = set xs e (f e (get_or xs e 0))

    go : (t : Bool) → eqb e j ≡ t → cond t 1 0 + times j p ≡ 1 → (times j p ≡ 0 → get_or (update f p ys) j 0 ≡ get_or ys j 0) →
        (times j p ≡ 1 → get_or (update f p ys) j 0 ≡ f j (get_or ys j 0)) → get_or (update f p ys) j 0 ≡ f j (get_or xs j 0)
    go true q h none more =
        let same : e ≡ j = eqb-true e j q in
        none (omega arith) ∙ (rw (← same) (get_or-set_same xs e (f e (get_or xs e 0)) 0 (rw same l)))
    go false q h none more =
        more (omega arith) ∙ ap (f j) (get_or-set_other xs e j (f e (get_or xs e 0)) 0 (λ r. eqb-false e j q (sym r)))
