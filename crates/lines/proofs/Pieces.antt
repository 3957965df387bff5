-- The first piece of a list ends where a scan for the cut ends, and the other pieces are those of what follows the cut.
-- Assumes nothing.
use mathlib.Core.Path.{◌≡◌, refl}
use mathlib.Core.Bool.{Bool, true, false, cond}
use mathlib.Core.List.{List, [], ◌∷◌}
use Prim.Native.Nat.{ℕ, suc, ◌≤◌, ◌<◌}
use native.Mathlib.Omega.{arith}
use lib.ListN.{length, take, drop}
use Rattle.arith.specs.Scan.{until}
use Rattle.lines.specs.Pieces.{lead, pieces}

module _ (f : ℕ → Bool) where
  -- where the scan stops it goes no further
  pub until-again : (s : List ℕ) → until f (drop (until f s) s) ≡ 0
  unfolding until
  until-again [] = refl
  until-again (x ∷ xs) = by (f x) refl (until-again xs)
    where
      by : (t : Bool) → f x ≡ t → until f (drop (until f xs) xs) ≡ 0 → until f (drop (cond t 0 (suc (until f xs))) (x ∷ xs)) ≡ 0
      by true e h = rw e
      by false e h = h

  front : (x : ℕ) (xs : List ℕ) →
      pieces f (x ∷ xs) ≡ take (until f (x ∷ xs)) (x ∷ xs) ∷ pieces f (drop (suc (until f (x ∷ xs))) (x ∷ xs))
  unfolding pieces until lead
  front x [] = by (f x)
    where
      by : (t : Bool) → cond t ([] ∷ []) ((x ∷ []) ∷ []) ≡ take (cond t 0 1) (x ∷ []) ∷ pieces f (drop (suc (cond t 0 1)) (x ∷ []))
      by true = refl
      by false = refl
  front x (y ∷ ys) = by (f x) (front y ys)
    where
      by : (t : Bool) → pieces f (y ∷ ys) ≡ take (until f (y ∷ ys)) (y ∷ ys) ∷ pieces f (drop (suc (until f (y ∷ ys))) (y ∷ ys)) →
          cond t ([] ∷ pieces f (y ∷ ys)) (lead x (pieces f (y ∷ ys))) ≡
          take (cond t 0 (suc (until f (y ∷ ys)))) (x ∷ y ∷ ys) ∷ pieces f (drop (suc (cond t 0 (suc (until f (y ∷ ys))))) (x ∷ y ∷ ys))
      by true h = refl
      by false h = rw h

  pub first_piece : (s : List ℕ) → 0 < length s → pieces f s ≡ take (until f s) s ∷ pieces f (drop (suc (until f s)) s)
  first_piece [] h = absurd (omega arith)
  first_piece (x ∷ xs) h = front x xs

  -- There are no more pieces than members.
  pub few-pieces : (s : List ℕ) → length (pieces f s) ≤ length s
  unfolding pieces lead
  few-pieces [] = omega arith
  few-pieces (x ∷ xs) = by (f x) (pieces f xs) (few-pieces xs)
    where
      by : (t : Bool) (ps : List (List ℕ)) → length ps ≤ length xs → length (cond t ([] ∷ ps) (lead x ps)) ≤ length (x ∷ xs)
      by true ps h = omega arith
      by false [] h = omega arith
      by false (q ∷ ps) h = omega arith
