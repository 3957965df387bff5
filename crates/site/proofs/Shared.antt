-- A slice of which each floor has a part, replaced floor by floor: a floor's part is touched by its own turn alone. Assumes nothing.
use mathlib.Core.Path.{◌≡◌, ap, ◌∙◌}
use mathlib.Core.List.{List}
use Prim.Native.Nat.{ℕ, suc, ◌+◌, ◌/◌, ◌≤◌, ◌<◌}
use native.Mathlib.Nat.{le_of_eq}
use native.Mathlib.Omega.{arith}
use lib.ListN.{length, drop}
use Rattle.numbers.specs.Numbers.{count}
use Rattle.packed.specs.Part.{part, put}
use Rattle.packed.proofs.Columns.{part_length}
use Rattle.packed.proofs.Replaced.{length-kept, part-early, part-late, drop-kept}
use Rattle.site.specs.Parts.{own, put_own}
use Rattle.site.specs.Turns.{span_of}
use Rattle.site.proofs.Begins.{span-most, span-next}

module _ (floors : List ℕ) (j k : ℕ) (xs ys : ℕ → List ℕ)
    (same : (i : ℕ) → i < k → length (ys i) ≡ length (own floors j i (xs i)))
    (turn : (i : ℕ) → i < k → xs (suc i) ≡ put_own floors j i (xs i) (ys i)) where
  -- where the parts are, by the slice as it was first
  abbrev from : ℕ → ℕ
  from i = (span_of floors j (count (xs 0)) i).from

  abbrev size : ℕ → ℕ
  size i = (span_of floors j (count (xs 0)) i).size

  counted : (i : ℕ) → length (xs i) ≡ length (xs 0) → count (xs i) ≡ count (xs 0)
  counted i e = ap (λ n. n / 8) e

  sized : (i : ℕ) → i < k → length (xs i) ≡ length (xs 0) → length (ys i) ≡ size i
  sized i h e =
      let p = span_of floors j (count (xs i)) i in
      same i h ∙ (part_length p.from p.size (xs i) (span-most floors j i (xs i)) ∙ ap (λ c. (span_of floors j c i).size) (counted i e))

  turned : (i : ℕ) → i < k → length (xs i) ≡ length (xs 0) → xs (suc i) ≡ put (from i) (size i) (xs i) (ys i)
  turned i h e = turn i h ∙ ap (λ c. put (span_of floors j c i).from (span_of floors j c i).size (xs i) (ys i)) (counted i e)

  inside : (i : ℕ) → i < k → from i + size i ≤ length (xs 0)
  inside i h = span-most floors j i (xs 0)

  next : (i : ℕ) → i < k → from i + size i ≤ from (suc i)
  next i h = le_of_eq (span-next floors j (count (xs 0)) i)

  pub own-length : (i : ℕ) → i ≤ k → length (xs i) ≡ length (xs 0)
  own-length = length-kept from size xs ys k next inside sized turned

  -- the part in the slice as it stands then
  standing : (i e : ℕ) → e ≤ k → own floors j i (xs e) ≡ part (from i) (size i) (xs e)
  standing i e h = ap (λ c. part (span_of floors j c i).from (span_of floors j c i).size (xs e)) (counted e (own-length e h))

  pub own-early : (i : ℕ) → i < k → own floors j i (xs i) ≡ own floors j i (xs 0)
  own-early i h = standing i i (omega arith) ∙ part-early from size xs ys k next inside sized turned i i (omega arith) h

  pub own-late : (i : ℕ) → i < k → own floors j i (xs k) ≡ ys i
  own-late i h = standing i k (omega arith) ∙ part-late from size xs ys k next inside sized turned i k h (omega arith)

  pub own_behind : drop (from k) (xs k) ≡ drop (from k) (xs 0)
  own_behind = drop-kept from size xs ys k next inside sized turned k (from k) (omega arith) (omega arith)
