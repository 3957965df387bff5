-- A list written over the front of another: what it keeps.
-- Assumes nothing.
use mathlib.Core.Path.{◌≡◌}
use Prim.Native.Nat.{ℕ, ◌≤◌}
use mathlib.Core.List.{List, ◌++◌}
use native.Mathlib.Nat.{le_dest}
use native.Mathlib.Omega.{arith}
use lib.ListN.{length, take, drop, length-append, length-drop, take-append-drop}
use lib.Seq.{drop-append-add, drop-drop, length-take-le}

-- u in place of as many first elements of s.
abbrev pub over : List ℕ → List ℕ → List ℕ
over u s = u ++ drop (length u) s

pub length_over : (u s : List ℕ) → length u ≤ length s → length (over u s) ≡ length s
length_over u s h = simp (length-append, length-drop) (omega arith)

-- What lies past u is kept.
pub drop-over : (u s : List ℕ) (n : ℕ) → length u ≤ n → drop n (over u s) ≡ drop n s
drop-over u s n h =
    let d = le_dest h in
    rw (← d.1, drop-append-add, drop-drop)

-- A list is its own first elements over itself.
pub over-take : (s : List ℕ) (n : ℕ) → n ≤ length s → over (take n s) s ≡ s
over-take s n h = rw (length-take-le n s, take-append-drop)
