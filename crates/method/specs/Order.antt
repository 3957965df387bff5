-- Dictionary order of lists of numbers.
use Rattle.std.specs.Prelude.{◌≡◌, List, [], ◌∷◌, ℕ, ◌<◌}

-- Document 01, "One choice of route": of two lists the one that ends first, where they agree so far, or has the smaller number where they
-- first differ, the numbers compared as numbers.
pub data Before : List ℕ → List ℕ → Type 0 where
  ends : {e : ℕ} {q : List ℕ} → Before [] (e ∷ q)
  smaller : {d e : ℕ} {p q : List ℕ} → d < e → Before (d ∷ p) (e ∷ q)
  agrees : {d e : ℕ} {p q : List ℕ} → d ≡ e → Before p q → Before (d ∷ p) (e ∷ q)
