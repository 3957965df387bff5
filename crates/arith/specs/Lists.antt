-- Lists of numbers in order, and tests over an index.
use Rattle.std.specs.Prelude.{Bool, false, cond, ◌||◌, List, [], ◌∷◌, ◌++◌, ℕ, zero, suc}

-- i, i + 1, .., n numbers in all
unfoldable pub up_from : ℕ → ℕ → List ℕ
up_from i zero = []
up_from i (suc n) = i ∷ up_from (suc i) n

-- 0, 1, .., n - 1
unfoldable pub up_to : ℕ → List ℕ
up_to n = up_from 0 n

-- Some i < n passes the test.
unfoldable pub exists : ℕ → (ℕ → Bool) → Bool
exists zero f = false
exists (suc n) f = exists n f || f n

module _ {A B : Type 0} where
  -- f x for each x in turn, one list after the other
  unfoldable pub flat : (A → List B) → List A → List B
  flat f [] = []
  flat f (x ∷ xs) = f x ++ flat f xs

module _ {A : Type 0} where
  -- the members that pass the test, in their order
  unfoldable pub keep : (A → Bool) → List A → List A
  keep f [] = []
  keep f (x ∷ xs) = cond (f x) (x ∷ keep f xs) (keep f xs)
