-- Parts of a slice replaced in turn, each behind the one before it: a part is touched by its own turn alone. Assumes nothing.
use mathlib.Core.Path.{◌≡◌, refl, ap, ◌∙◌}
use mathlib.Core.List.{List}
use Prim.Native.Nat.{ℕ, zero, suc, ◌+◌, ◌≤◌, ◌<◌}
use native.Mathlib.Decide.{dec_lt}
use native.Mathlib.Omega.{arith}
use lib.ListN.{length, drop}
use Rattle.packed.specs.Part.{part, put}
use Rattle.packed.proofs.Columns.{part-put, put-length, drop-behind, part-behind, part-before}

module _ (from size : ℕ → ℕ) (xs ys : ℕ → List ℕ) (k : ℕ)
    (next : (i : ℕ) → i < k → from i + size i ≤ from (suc i))
    (inside : (i : ℕ) → i < k → from i + size i ≤ length (xs 0))
    (same : (i : ℕ) → i < k → length (xs i) ≡ length (xs 0) → length (ys i) ≡ size i)
    (turn : (i : ℕ) → i < k → length (xs i) ≡ length (xs 0) → xs (suc i) ≡ put (from i) (size i) (xs i) (ys i)) where
  pub length-kept : (i : ℕ) → i ≤ k → length (xs i) ≡ length (xs 0)
  length-kept zero h = refl
  length-kept (suc i) h =
      let e = length-kept i (omega arith) in
      ap length (turn i h e) ∙ (put-length (from i) (size i) (xs i) (ys i) (omega (arith, inside i h, e)) (same i h e) ∙ e)

  -- one turn, with what it asks
  module _ (i : ℕ) (h : i < k) where
    kept : length (xs i) ≡ length (xs 0)
    kept = length-kept i (omega arith)

    fits : from i + size i ≤ length (xs i)
    fits = omega (arith, inside i h, kept)

    sized : length (ys i) ≡ size i
    sized = same i h kept

    turned : xs (suc i) ≡ put (from i) (size i) (xs i) (ys i)
    turned = turn i h kept

  behind : (i j : ℕ) → i < j → j ≤ k → from i + size i ≤ from j
  behind i zero l h = absurd (omega arith)
  behind i (suc j) l h = elim (dec_lt i j) [
    | yes b ↦ omega (arith, behind i j b (omega arith), next j h)
    | no b ↦ let e : i ≡ j = omega arith in rw e (next j h)
  ]

  -- Before its own turn a part is as it was,
  pub part-early : (i j : ℕ) → j ≤ i → i < k → part (from i) (size i) (xs j) ≡ part (from i) (size i) (xs 0)
  part-early i zero l h = refl
  part-early i (suc j) l h =
      let b : j < k = omega arith in
      ap (part (from i) (size i)) (turned j b) ∙
      (part-behind (from j) (size j) (xs j) (ys j) (fits j b) (sized j b) (from i) (size i) (behind j i l (omega arith)) ∙ part-early i j (omega arith) h)

  -- and after it as that left it.
  pub part-late : (i j : ℕ) → i < j → j ≤ k → part (from i) (size i) (xs j) ≡ ys i
  part-late i zero l h = absurd (omega arith)
  part-late i (suc j) l h = ap (part (from i) (size i)) (turned j h) ∙ elim (dec_lt i j) [
    | yes b ↦
        part-before (from j) (size j) (xs j) (from i) (size i) (ys j) (omega (arith, fits j h)) (behind i j b (omega arith)) ∙ part-late i j b (omega arith)
    | no b ↦ let e : i ≡ j = omega arith in rw e (part-put (from j) (size j) (xs j) (ys j) (fits j h) (sized j h))
  ]

  -- What lies behind all parts is never touched.
  pub drop-kept : (j n : ℕ) → j ≤ k → from j ≤ n → drop n (xs j) ≡ drop n (xs 0)
  drop-kept zero n h l = refl
  drop-kept (suc j) n h l =
      let past : from j + size j ≤ n = omega (arith, next j h) in
      ap (drop n) (turned j h) ∙ (drop-behind (from j) (size j) (xs j) (ys j) (fits j h) (sized j h) n past ∙ drop-kept j n (omega arith) (omega arith))
