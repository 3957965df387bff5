-- Laws of one number of a byte slice: its bound, and where it lies in a list written over the front of another.
-- Assumes nothing.
use mathlib.Core.Path.{◌≡◌}
use Prim.Native.Nat.{ℕ, zero, suc, ◌+◌, ◌*◌, ◌^◌, ◌≤◌, ◌<◌}
use mathlib.Core.List.{List, [], ◌∷◌, ◌++◌}
use native.Mathlib.Omega.{arith}
use lib.ListN.{length, take, drop, length-take, length-drop}
use lib.Seq.{drop-append-add, take-append-le, drop-append-le, get_or-drop}
use Rattle.numbers.specs.Parts.{Bytes}
use Rattle.numbers.specs.Numbers.{number_at}
use Rattle.numbers.proofs.Over.{over, drop-over}
use Rattle.numbers.proofs.Values.{value-below-8}

-- A part of bytes is bytes.
pub bytes_drop : (n : ℕ) (s : List ℕ) → Bytes s → Bytes (drop n s)
bytes_drop n s h i = rw get_or-drop (h (n + i))

pub bytes_take : (n : ℕ) (s : List ℕ) → Bytes s → Bytes (take n s)
bytes_take zero s h i = omega arith
bytes_take (suc n) [] h i = omega arith
bytes_take (suc n) (b ∷ s) h zero = h 0
bytes_take (suc n) (b ∷ s) h (suc i) = bytes_take n s (λ k. h (suc k)) i

-- Every number of a byte slice has 64 bits.
pub number_at-below : (s : List ℕ) (i : ℕ) → Bytes s → number_at s i < 2 ^ 64
unfolding number_at
number_at-below s i h =
    value-below-8 (take 8 (drop (8 * i) s)) (simp length-take (omega arith)) (bytes_take 8 (drop (8 * i) s) (bytes_drop (8 * i) s h))

-- A number that is complete in u is the same in any list that begins with u.
pub number_at-front : (u t : List ℕ) (i : ℕ) → 8 * i + 8 ≤ length u → number_at (u ++ t) i ≡ number_at u i
unfolding number_at
number_at-front u t i h =
    let from : 8 * i ≤ length u = omega arith in
    let room : 8 ≤ length (drop (8 * i) u) = simp length-drop (omega arith) in
    rw (drop-append-le (8 * i) u t from, take-append-le 8 (drop (8 * i) u) t room)

-- A number that lies past u is kept.
pub number_at-past : (u s : List ℕ) (i : ℕ) → length u ≤ 8 * i → number_at (over u s) i ≡ number_at s i
unfolding number_at
number_at-past u s i h = rw drop-over

-- Eight bytes in front move every number by one place.
pub number_at-next : (ds s : List ℕ) (i : ℕ) → length ds ≡ 8 → number_at (ds ++ s) (suc i) ≡ number_at s i
unfolding number_at
number_at-next ds s i e =
    let next : 8 * suc i ≡ length ds + 8 * i = omega arith in
    rw (next, drop-append-add)
