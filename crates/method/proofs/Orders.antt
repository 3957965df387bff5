-- Dictionary order is an order: of two lists exactly one is before the other, or they are the same; and the order by number of arcs first.
-- Assumes nothing.
use mathlib.Core.Path.{◌≡◌, refl, sym, ap₂, ◌∙◌}
use mathlib.Core.List.{List, [], ◌∷◌}
use Prim.Native.Nat.{ℕ, ◌<◌}
use native.Mathlib.Nat.{lt_trans}
use native.Mathlib.Omega.{arith}
use lib.ListN.{length}
use Rattle.arith.proofs.Order.{Compared, below, equal, above, compare}
use Rattle.method.specs.Order.{Before, ends, smaller, agrees}

pub before-not-after : {p q : List ℕ} → Before p q → Before q p → ⊥
before-not-after (ends {e = e} {q = q}) h = elim h [ ]
before-not-after (smaller a) (smaller b) = omega arith
before-not-after (smaller a) (agrees b k) = omega arith
before-not-after (agrees a h) (smaller b) = omega arith
before-not-after (agrees a h) (agrees b k) = before-not-after h k

pub before-trans : {p q r : List ℕ} → Before p q → Before q r → Before p r
before-trans ends (smaller b) = ends
before-trans ends (agrees b k) = ends
before-trans (smaller a) (smaller b) = smaller (lt_trans a b)
before-trans (smaller a) (agrees b k) = smaller (rw b at a)
before-trans (agrees a h) (smaller b) = smaller (rw (← a) at b)
before-trans (agrees a h) (agrees b k) = agrees (a ∙ b) (before-trans h k)

-- Two lists as cases to take apart.
pub data Ordered (p q : List ℕ) : Type 0 where
  earlier : Before p q → Ordered p q
  same : p ≡ q → Ordered p q
  later : Before q p → Ordered p q

pub ordered : (p q : List ℕ) → Ordered p q
ordered [] [] = same refl
ordered [] (e ∷ q) = earlier ends
ordered (d ∷ p) [] = later ends
ordered (d ∷ p) (e ∷ q) = by_first (compare d e) (ordered p q)
  where
    by_first : Compared d e → Ordered p q → Ordered (d ∷ p) (e ∷ q)
    by_first (below l) r = earlier (smaller l)
    by_first (above l) r = later (smaller l)
    by_first (equal a) (earlier h) = earlier (agrees a h)
    by_first (equal a) (same b) = same (ap₂ {C = List ℕ} (λ x l. x ∷ l) a b)
    by_first (equal a) (later h) = later (agrees (sym a) h)

-- Fewer numbers, or as many and before in dictionary order.
pub data Ahead (p q : List ℕ) : Type 0 where
  fewer : length p < length q → Ahead p q
  as_many : length p ≡ length q → Before p q → Ahead p q

pub ahead-cons : {p q : List ℕ} (e : ℕ) → Ahead p q → Ahead (e ∷ p) (e ∷ q)
ahead-cons e (fewer b) = fewer (omega arith)
ahead-cons e (as_many s b) = as_many (omega arith) (agrees refl b)

pub ahead-not-behind : {p q : List ℕ} → Ahead p q → Ahead q p → ⊥
ahead-not-behind (fewer a) (fewer b) = omega arith
ahead-not-behind (fewer a) (as_many s b) = omega arith
ahead-not-behind (as_many r a) (fewer b) = omega arith
ahead-not-behind (as_many r a) (as_many s b) = before-not-after a b
