-- Lists without repetition.
use Rattle.std.specs.Prelude.{List, [], ◌∷◌}
use Rattle.arith.specs.Member.{Member}

module _ {A : Type 0} where
  -- No two places of the list hold the same: the first member is not among the rest, and so on.
  pub data Distinct : List A → Type 0 where
    empty : Distinct []
    more : {x : A} {xs : List A} → (Member x xs → ⊥) → Distinct xs → Distinct (x ∷ xs)
