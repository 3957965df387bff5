-- The numbers of a list of amounts, two for each: how many, each of them, by equal amounts, and written in turn. Assumes nothing.
use mathlib.Core.Path.{◌≡◌, refl, sym, ap, ◌∙◌}
use mathlib.Core.Logic.{⊎_elim}
use mathlib.Core.List.{List, [], ◌∷◌, ◌++◌, append_assoc}
use Prim.Native.Nat.{ℕ, zero, suc, ◌+◌, ◌*◌, ◌/◌, ◌%◌, ◌<◌}
use native.Mathlib.Nat.{le_refl, eq-or-lt_of_le, le_of_suc-le-suc}
use native.Mathlib.Omega.{arith}
use lib.ListN.{length, get_or, length-append, get_or-append}
use lib.Seq.{get_or-append-add}
use Rattle.numbers.specs.Numbers.{written, put_at}
use Rattle.numbers.proofs.Tables.{put_at-written}
use Rattle.whole.specs.Whole.{parted}

module _ (c y : ℕ) (x : ℕ → ℕ) where
  pub parted-length : (k : ℕ) → length (parted c y x k) ≡ 2 * k
  unfolding parted
  parted-length zero = refl
  parted-length (suc k) = length-append (parted c y x k) _ ∙ omega (arith, parted-length k)

  -- Number 2 * i + j, of two, is number j of the two of amount i.
  pub parted-at : (k i j : ℕ) → i < k → j < 2 → get_or (parted c y x k) (2 * i + j) 0 ≡ get_or (x i * c / y ∷ x i * c % y ∷ []) j 0
  unfolding parted
  parted-at zero i j l b = absurd (omega arith)
  parted-at (suc k) i j l b =
      let two = x k * c / y ∷ x k * c % y ∷ [] in
      ⊎_elim
      (λ (e : i ≡ k).
      rw e (ap (λ m. get_or (parted c y x k ++ two) (m + j) 0) (sym (parted-length k)) ∙ get_or-append-add (parted c y x k) two j 0))
      (λ (l : i < k). get_or-append (parted c y x k) two 0 (2 * i + j) (omega (arith, parted-length k)) ∙ parted-at k i j l b)
      (eq-or-lt_of_le (le_of_suc-le-suc l))

  -- Two numbers more, for the amount z.
  pub parted-more : (s : List ℕ) (i z : ℕ) {t : List ℕ} → t ≡ written s (parted c y x i) → z ≡ x i →
      put_at (put_at t (2 * i) (z * c / y)) (2 * i + 1) (z * c % y) ≡ written s (parted c y x (i + 1))
  unfolding parted
  parted-more s i z h e =
      let xs = parted c y x i in
      let w : ℕ = x i * c / y in
      let r : ℕ = x i * c % y in
      let next : suc i ≡ i + 1 = omega arith in
      rw (h, e)
      (ap (λ p. put_at p (2 * i + 1) r) (ap (λ j. put_at (written s xs) j w) (sym (parted-length i)) ∙ put_at-written s xs w) ∙
      (ap (λ j. put_at (written s (xs ++ (w ∷ []))) j r) (omega (arith, parted-length i, length-append xs (w ∷ []))) ∙
      (put_at-written s (xs ++ (w ∷ [])) r ∙
      (ap (written s) (append_assoc xs (w ∷ []) (r ∷ [])) ∙ ap (λ j. written s (parted c y x j)) next))))

-- Equal amounts have equal numbers.
pub parted-cong : (c y : ℕ) (x z : ℕ → ℕ) (k : ℕ) → ((i : ℕ) → i < k → x i ≡ z i) → parted c y x k ≡ parted c y z k
unfolding parted
parted-cong c y x z zero h = refl
parted-cong c y x z (suc k) h = rw (parted-cong c y x z k (λ i l. h i (omega arith)), h k (le_refl (suc k))) refl
