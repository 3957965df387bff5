-- Laws of a member read out of every item of a table: how many, which and how large.
-- Assumes nothing.
use mathlib.Core.Path.{◌≡◌, refl, ◌∙◌}
use mathlib.Core.Logic.{⊎_elim}
use Prim.Native.Nat.{ℕ, zero, suc, ◌+◌, ◌*◌, ◌^◌, ◌<◌}
use mathlib.Core.List.{List, [], ◌∷◌, ◌++◌}
use native.Mathlib.Nat.{eq-or-lt_of_le, le_of_suc-le-suc, le-div_iff_mul-le}
use native.Mathlib.Decide.{dec_lt}
use native.Mathlib.Numerals.{add-one}
use native.Mathlib.Omega.{arith}
use lib.Dec.{lit<}
use lib.ListN.{length, drop, get_or, set, length-append, get_or-append, get_or-eq_default}
use lib.Seq.{drop-cons, append_snoc, set_at, get_or_at, ext_get_or}
use Rattle.numbers.specs.Parts.{Bytes}
use Rattle.numbers.specs.Numbers.{count, items, number_at, column, written}
use Rattle.numbers.proofs.Places.{number_at-below}
use Rattle.numbers.proofs.Tables.{number_at-written}

pub length-column : (s : List ℕ) (k j n : ℕ) → length (column s k j n) ≡ n
unfolding column
length-column s k j zero = refl
length-column s k j (suc n) = rw length-append (omega (arith, length-column s k j n))

-- Entry i is member j of item i.
pub get_or-column : (s : List ℕ) (k j n i : ℕ) → i < n → get_or (column s k j n) i 0 ≡ number_at s (k * i + j)
unfolding column
get_or-column s k j zero i h = absurd (omega arith)
get_or-column s k j (suc n) i h =
    let entry = number_at s (k * n + j) in
    ⊎_elim
    (λ (e : i ≡ n). rw e (get_or_at (column s k j n) entry [] 0 n (length-column s k j n)))
    (λ (l : i < n). get_or-append (column s k j n) (entry ∷ []) 0 i (omega (arith, length-column s k j n)) ∙ get_or-column s k j n i l)
    (eq-or-lt_of_le (le_of_suc-le-suc h))

-- Member j of a complete item is a complete number.
pub member_below : (s : List ℕ) (k j i : ℕ) → j < k → i < items k s → k * i + j < count s
member_below s k j i h l =
    let pos : 0 < 8 * k = omega arith in
    omega (arith, (le-div_iff_mul-le pos).0 l)

-- Every entry has 64 bits.
pub column-below : (s : List ℕ) (k j n i : ℕ) → Bytes s → get_or (column s k j n) i 0 < 2 ^ 64
column-below s k j n i h = elim (dec_lt i n) [
  | yes l ↦ rw get_or-column (number_at-below s (k * i + j) h)
  | no l ↦ rw (get_or-eq_default (column s k j n) 0 {n = i} (omega (arith, length-column s k j n))) (lit< tt)
]

-- A column of numbers that were written.
pub column-written : (s xs : List ℕ) (k j n i : ℕ) → k * i + j < length xs → i < n → get_or xs (k * i + j) 0 < 2 ^ 64
    → get_or (column (written s xs) k j n) i 0 ≡ get_or xs (k * i + j) 0
column-written s xs k j n i h l b = get_or-column (written s xs) k j n i l ∙ number_at-written s xs (k * i + j) h b

-- Numbers that were written are read back whole.
pub column-read-back : (s xs : List ℕ) → ((i : ℕ) → get_or xs i 0 < 2 ^ 64) → column (written s xs) 1 0 (length xs) ≡ xs
column-read-back s xs b =
    ext_get_or 0 (column (written s xs) 1 0 (length xs)) xs (length-column (written s xs) 1 0 (length xs))
    (λ i l. let h : i < length xs = omega (arith, length-column (written s xs) 1 0 (length xs)) in
    let e : 1 * i + 0 ≡ i = omega arith in
    rw e at (column-written s xs 1 0 (length xs) i (omega arith) h (rw e (b i))))

-- One entry more, stored behind the others.
pub column-more : (s out : List ℕ) (k j i : ℕ) → i < length out
    → set (column s k j i ++ drop i out) i (number_at s (k * i + j)) ≡ column s k j (i + 1) ++ drop (i + 1) out
unfolding column
column-more s out k j i h =
    rw (add-one, drop-cons out i 0, set_at (column s k j i) (get_or out i 0) (drop (suc i) out) (number_at s (k * i + j)) i (length-column s k j i), append_snoc)
