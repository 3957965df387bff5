-- The marked figures of document 01, "Marked figures", proved together: one table, one computed test, and the law that makes each row an equation.
-- Assumes nothing.
use mathlib.Core.Path.{◌≡◌}
use mathlib.Core.Bool.{Bool}
use mathlib.Core.List.{List, [], ◌∷◌}
use Prim.Native.Nat.{ℕ, ◌<◌}
use lib.Dec.{T, eqb, eqb→eq}
use lib.ListN.{length, get_or}
use Rattle.arith.specs.Ceiling.{ceil}
use Rattle.length.specs.Length.{scale, start, growth, halving}
use Rattle.length.specs.Level.{level, threshold}
use Rattle.length.specs.Levels.{levels}
use Rattle.length.proofs.Every.{every, at_every}

-- What the definitions give, and what document 01 says
unfoldable pub figures : List (ℕ × ℕ)
figures =
    (level 1 4, 1) ∷
    (level 2 4, 4) ∷
    (level 2 16, 12) ∷
    (level 256 4, 25) ∷
    (level 256 16, 92) ∷
    (threshold 256 16, 1472) ∷
    (start 5, 13743895348) ∷
    (start 3, 22906492246) ∷
    (growth 4 5 5 13743895348, 17179869185) ∷
    (growth 16 1 1000 1, 2) ∷
    (halving 7, 4) ∷
    (halving 1, 1) ∷
    []

agree : ℕ → ℕ × ℕ → Bool
agree i r = eqb r.0 r.1

passes : T (every agree 0 figures)
unfolding figures agree level levels threshold start scale growth halving ceil
passes = tt

-- Each row is an equation
pub figure : (k : ℕ) → k < length figures → (get_or figures k (0, 0)).0 ≡ (get_or figures k (0, 0)).1
unfolding agree
figure k h =
    let r = get_or figures k (0, 0) in
    eqb→eq r.0 r.1 (at_every agree 0 figures (0, 0) passes k h)
