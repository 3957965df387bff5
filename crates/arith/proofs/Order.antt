-- Cases of the order of two numbers, to take apart. Assumes nothing.
use mathlib.Core.Path.{◌≡◌, refl}
use mathlib.Core.Bool.{Bool, true, false}
use mathlib.Core.Logic.{◌⊎◌, inl, inr}
use Prim.Native.Nat.{ℕ, ◌≤◌, ◌<◌}
use native.Mathlib.Omega.{arith}
use lib.Dec.{ltb, leb}
use borrow.Author.Tests.{ltb-true, ltb-false, leb-true, leb-false}

pub le-or-lt : (a b : ℕ) → (a ≤ b) ⊎ (b < a)
le-or-lt a b = by-test (leb a b) refl
  where
    by-test : (t : Bool) → leb a b ≡ t → (a ≤ b) ⊎ (b < a)
    by-test true h = inl (leb-true a b h)
    by-test false h = inr (leb-false a b h)

pub data Compared (m n : ℕ) : Type 0 where
  below : m < n → Compared m n
  equal : m ≡ n → Compared m n
  above : n < m → Compared m n

pub compare : (m n : ℕ) → Compared m n
compare m n = by_tests (ltb m n) (ltb n m) refl refl
  where
    by_tests : (b c : Bool) → ltb m n ≡ b → ltb n m ≡ c → Compared m n
    by_tests true c p q = below (ltb-true m n p)
    by_tests false true p q = above (ltb-true n m q)
    by_tests false false p q = equal (omega (arith, ltb-false m n p, ltb-false n m q))
