-- Runs over two resources of capacity 1 at precision 4, as tables of numbers that the checker computes with.
-- Assumes nothing.
use mathlib.Core.Bool.{Bool, true, false}
use Prim.Native.Nat.{ℕ, zero, suc, ◌+◌, ◌*◌, ◌^◌, ◌<◌}
use native.Mathlib.Nat.{not-suc-le-zero, le_of_suc-le-suc}
use lib.Dec.{leb, ltb}
use Rattle.arith.specs.Ceiling.{ceil}
use Rattle.packing.proofs.Run.{volume, grown, State}

-- the numbers of a state over two resources: lengths l, loads y
pub record Table : Type 0 where
  pub l₀ : ℕ
  pub l₁ : ℕ
  pub y₀ : ℕ
  pub y₁ : ℕ
  pub total : ℕ
  pub count : ℕ
  pub bound : ℕ
  pub alpha : ℕ

-- x at resource 0, y at resource 1
abbrev pub pick : ℕ → ℕ → ℕ → ℕ
pick x y zero = x
pick x y (suc e) = y

-- every capacity is 1
abbrev pub ones : ℕ → ℕ
ones e = 1

-- the lengths as a function of the resource
abbrev pub lengths : Table → ℕ → ℕ
lengths t = pick t.l₀ t.l₁

-- the state of a table
abbrev pub state : Table → State
state t = record { length = lengths t; load = pick t.y₀ t.y₁; total = t.total; count = t.count; bound = t.bound; alpha = t.alpha }

-- What holds at 0 and 1 holds below 2.
pub two : (P : ℕ → Type 0) → P 0 → P 1 → (e : ℕ) → e < 2 → P e
two P a b zero h = a
two P a b (suc zero) h = b
two P a b (suc (suc e)) h = absurd (not-suc-le-zero (le_of_suc-le-suc (le_of_suc-le-suc h)))

-- x if the test succeeded, otherwise y
abbrev pub choose : Bool → ℕ → ℕ → ℕ
choose true x y = x
choose false x y = y

-- the lengths grown by draws d₀ and d₁
abbrev pub drawn : (d₀ d₁ : ℕ) → Table → ℕ → ℕ
drawn d₀ d₁ t = grown 4 ones (lengths t) (pick d₀ d₁)

-- the next table after draws d₀ and d₁ by a column of length a, with the tests on the mark and on the least fraction
abbrev pub moved : Bool → Bool → (d₀ d₁ a : ℕ) → Table → Table
moved high less d₀ d₁ a t = record {
  l₀ = choose high (ceil (drawn d₀ d₁ t 0) 2) (drawn d₀ d₁ t 0);
  l₁ = choose high (ceil (drawn d₀ d₁ t 1) 2) (drawn d₀ d₁ t 1);
  y₀ = t.y₀ + d₀;
  y₁ = t.y₁ + d₁;
  total = t.total + 1;
  count = suc t.count;
  bound = choose less (volume 2 ones (lengths t)) t.bound;
  alpha = choose less a t.alpha;
}

-- one of two tests succeeds
abbrev pub either : Bool → Bool → Bool
either true b = true
either false b = b

-- the same with the tests made
abbrev pub move : (d₀ d₁ a : ℕ) → Table → Table
move d₀ d₁ a t =
    moved
    (either (leb (2 ^ 40) (drawn d₀ d₁ t 0)) (leb (2 ^ 40) (drawn d₀ d₁ t 1)))
    (ltb (volume 2 ones (lengths t) * t.alpha) (t.bound * a))
    d₀ d₁ a t
