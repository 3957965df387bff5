-- The draw is at most the capacity of each resource that the path uses, and is the whole capacity of one of them.
-- Assumes nothing.
use mathlib.Core.Path.{◌≡◌, refl, ap}
use mathlib.Core.Bool.{Bool, true, false, cond}
use mathlib.Core.Logic.{◌⊎◌, inl, inr, ⊎_elim}
use mathlib.Core.List.{List, [], ◌∷◌}
use Prim.Native.Nat.{ℕ, ◌+◌, ◌≤◌, ◌<◌, min}
use native.Mathlib.Omega.{arith}
use borrow.Author.Tests.{eqb-true}
use lib.Dec.{eqb}
use lib.ListN.{get_or}
use Rattle.arith.proofs.Order.{le-or-lt}
use Rattle.method.specs.Iteration.{draw}
use Rattle.arith.specs.Times.{times}
use Rattle.method.proofs.Times.{once-same}

-- The capacity of resource e.
abbrev cap_at : List ℕ → ℕ → ℕ
cap_at caps e = get_or caps e 0

-- What holds of e or of all of p holds where e ∷ p has j.
member : (j e : ℕ) (p : List ℕ) → 0 < times j (e ∷ p) → (e ≡ j) ⊎ (0 < times j p)
unfolding times
member j e p h = go (eqb e j) refl h
  where
    go : (t : Bool) → eqb e j ≡ t → 0 < cond t 1 0 + times j p → (e ≡ j) ⊎ (0 < times j p)
    go true q h = inl (eqb-true e j q)
    go false q h = inr (omega arith)

-- A member of a list at which the capacity is x.
pub record At (caps : List ℕ) (p : List ℕ) (x : ℕ) : Type 0 where
  pub arc : ℕ
  pub member : 0 < times arc p
  pub whole : cap_at caps arc ≡ x

first-at : (caps : List ℕ) (e : ℕ) (p : List ℕ) → At caps (e ∷ p) (cap_at caps e)
unfolding times
first-at caps e p = record { arc = e; member = omega (arith, once-same e); whole = refl }

later-at : (caps : List ℕ) (e : ℕ) (p : List ℕ) (x : ℕ) → At caps p x → At caps (e ∷ p) x
unfolding times
later-at caps e p x a = record { arc = a.arc; member = omega (arith, a.member); whole = a.whole }

-- The draw is within the capacity of all that the path uses.
pub draw-within : (caps : List ℕ) (p : List ℕ) (j : ℕ) → 0 < times j p → draw caps p ≤ cap_at caps j
unfolding draw times
draw-within caps [] j h = absurd (omega arith)
draw-within caps (e ∷ []) j h =
    ⊎_elim (λ (q : e ≡ j). omega (arith, ap (cap_at caps) q)) (λ (l : 0 < times j []). absurd (omega arith)) (member j e [] h)
draw-within caps (e ∷ (d ∷ p)) j h =
    ⊎_elim (λ (q : e ≡ j). omega (arith, ap (cap_at caps) q)) (λ l. omega (arith, draw-within caps (d ∷ p) j l)) (member j e (d ∷ p) h)

-- The draw is the whole capacity of something that the path uses.
pub draw-whole : (caps : List ℕ) (e : ℕ) (p : List ℕ) → At caps (e ∷ p) (draw caps (e ∷ p))
unfolding draw
draw-whole caps e [] = first-at caps e []
draw-whole caps e (d ∷ p) =
    ⊎_elim
    (λ (l : cap_at caps e ≤ rest). let m : min (cap_at caps e) rest ≡ cap_at caps e = omega arith in rw m (first-at caps e (d ∷ p)))
    (λ (l : rest < cap_at caps e). let m : min (cap_at caps e) rest ≡ rest = omega arith in rw m (later-at caps e (d ∷ p) rest (draw-whole caps d p)))
    (le-or-lt (cap_at caps e) rest)
  where
    rest : ℕ
    rest = draw caps (d ∷ p)
