-- A test of m, q and L that passes at every entry of the table passes for all m from 1 to 256 and q from 4 to 16.
-- Assumes nothing.
use mathlib.Core.Path.{◌≡◌, refl, subst₂}
use mathlib.Core.Bool.{Bool}
use Prim.Native.Nat.{ℕ, ◌+◌, ◌-◌, ◌*◌, ◌/◌, ◌%◌, ◌≤◌}
use native.Mathlib.Omega.{arith}
use lib.Dec.{T}
use lib.ListN.{length}
use Rattle.length.specs.Level.{level}
use Rattle.length.specs.Levels.{levels}
use Rattle.length.proofs.Every.{every, at_every}

-- The test at place i of the table, where the entry is l
abbrev pub placed : (ℕ → ℕ → ℕ → Bool) → ℕ → ℕ → Bool
placed f i l = f (i % 256 + 1) (i / 256 + 4) l

-- The test at all places
abbrev pub tested : (ℕ → ℕ → ℕ → Bool) → Bool
tested f = every (placed f) 0 levels

size : length levels ≡ 3328
unfolding levels
size = refl

pub lookup : (f : ℕ → ℕ → ℕ → Bool) → T (tested f) → (m q : ℕ) → 1 ≤ m → m ≤ 256 → 4 ≤ q → q ≤ 16 → T (f m q (level m q))
unfolding level
lookup f t m q m≥ m≤ q≥ q≤ =
    let i = (q - 4) * 256 + (m - 1) in
    let column : (0 + i) % 256 + 1 ≡ m = omega arith in
    let row : (0 + i) / 256 + 4 ≡ q = omega arith in
    subst₂ (λ (a b : ℕ). T (f a b (level m q))) column row (at_every (placed f) 0 levels 0 t i (omega (arith, size)))
