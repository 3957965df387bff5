-- The sources and sinks of pairs: how many, and where each stands. Assumes nothing.
use mathlib.Core.Path.{◌≡◌, refl}
use mathlib.Core.List.{List, [], ◌∷◌}
use Prim.Native.Nat.{ℕ, zero, suc, ◌+◌, ◌*◌, ◌/◌, ◌<◌}
use native.Mathlib.Nat.{add-zero}
use native.Mathlib.Omega.{arith}
use lib.ListN.{length, get_or}
use Rattle.records.specs.Parts.{half_of}
use Rattle.records.specs.Records.{sources_in, sinks_in}

pub length-sources : (pairs : List ℕ) → length (sources_in pairs) ≡ length pairs / 2
unfolding sources_in
length-sources [] = omega arith
length-sources (x ∷ []) = omega arith
length-sources (x ∷ y ∷ pairs) = omega (arith, length-sources pairs)

length-sinks : (pairs : List ℕ) → length (sinks_in pairs) ≡ length pairs / 2
unfolding sinks_in
length-sinks [] = omega arith
length-sinks (x ∷ []) = omega arith
length-sinks (x ∷ y ∷ pairs) = omega (arith, length-sinks pairs)

twice : (i : ℕ) → 2 * suc i ≡ suc (suc (2 * i))
twice i = omega arith

twice-one : (i : ℕ) → 2 * suc i + 1 ≡ suc (suc (2 * i + 1))
twice-one i = omega arith

sources-at : (pairs : List ℕ) (i : ℕ) → i < length (sources_in pairs) → get_or (sources_in pairs) i 0 ≡ get_or pairs (2 * i) 0
unfolding sources_in
sources-at [] i h = absurd (omega arith)
sources-at (x ∷ []) i h = absurd (omega arith)
sources-at (x ∷ y ∷ pairs) zero h = refl
sources-at (x ∷ y ∷ pairs) (suc i) h = rw (twice i) (sources-at pairs i (omega arith))

sinks-at : (pairs : List ℕ) (i : ℕ) → i < length (sinks_in pairs) → get_or (sinks_in pairs) i 0 ≡ get_or pairs (2 * i + 1) 0
unfolding sinks_in
sinks-at [] i h = absurd (omega arith)
sinks-at (x ∷ []) i h = absurd (omega arith)
sinks-at (x ∷ y ∷ pairs) zero h = refl
sinks-at (x ∷ y ∷ pairs) (suc i) h = rw (twice-one i) (sinks-at pairs i (omega arith))

-- Either half of them.
pub length-half : (which : ℕ) (pairs : List ℕ) → length (half_of which pairs) ≡ length pairs / 2
unfolding half_of
length-half zero pairs = length-sources pairs
length-half (suc which) pairs = length-sinks pairs

pub half_at : (which : ℕ) → which < 2 → (pairs : List ℕ) (i : ℕ) → i < length (half_of which pairs) → get_or (half_of which pairs) i 0 ≡ get_or pairs (2 * i + which) 0
unfolding half_of
half_at zero b pairs i h = rw add-zero (sources-at pairs i h)
half_at (suc zero) b pairs i h = sinks-at pairs i h
half_at (suc (suc which)) b pairs i h = absurd (omega arith)
