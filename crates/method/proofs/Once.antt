-- A list without repetition has each number at most once. Assumes nothing.
use mathlib.Core.Path.{◌≡◌, refl, sym}
use mathlib.Core.Bool.{Bool, true, false, cond}
use mathlib.Core.List.{List, [], ◌∷◌}
use Prim.Native.Nat.{ℕ, ◌+◌, ◌≤◌}
use native.Mathlib.Omega.{arith}
use borrow.Author.Tests.{eqb-true}
use lib.Dec.{eqb}
use Rattle.arith.specs.Distinct.{Distinct, empty, more}
use Rattle.arith.specs.Member.{Member, first, later}
use Rattle.arith.specs.Times.{times}

absent : (e : ℕ) (p : List ℕ) → (Member e p → ⊥) → times e p ≡ 0
unfolding times
absent e [] n = refl
absent e (x ∷ p) n = go (eqb x e) refl (absent e p (λ m. n (later m)))
  where
    go : (t : Bool) → eqb x e ≡ t → times e p ≡ 0 → cond t 1 0 + times e p ≡ 0
    go true q h = absurd (n (first (sym (eqb-true x e q))))
    go false q h = omega arith

pub distinct-once : {p : List ℕ} → Distinct p → (e : ℕ) → times e p ≤ 1
unfolding times
distinct-once empty e = omega arith
distinct-once (more {x = x} {xs = p} n d) e = go (eqb x e) refl (distinct-once d e)
  where
    go : (t : Bool) → eqb x e ≡ t → times e p ≤ 1 → cond t 1 0 + times e p ≤ 1
    go true q h = let z : times e p ≡ 0 = absent e p (rw (eqb-true x e q) at n) in omega arith
    go false q h = omega arith
