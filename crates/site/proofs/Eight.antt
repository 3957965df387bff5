-- The eight numbers of a floor in the table of answers: what its call returned, and then its answer. Assumes nothing.
use borrow.Rule.Slice.PartMut.{Post-is}
use mathlib.Core.Path.{◌≡◌, sym, ap, ap₂, ◌∙◌}
use mathlib.Core.List.{List, ◌++◌, append_assoc}
use Prim.Native.Nat.{ℕ, ◌+◌, ◌*◌, ◌-◌, ◌^◌, ◌≤◌, ◌<◌}
use native.Mathlib.Omega.{arith}
use lib.ListN.{length, take, drop, length-drop}
use lib.Seq.{length-take-le, take-append-le, take_at, drop_at, take-take, drop-drop, take-add}
use Rattle.numbers.specs.Digits.{from_bytes, to_bytes}
use Rattle.numbers.specs.Numbers.{number_at, put_at}
use Rattle.numbers.proofs.Digits.{length_digits}
use Rattle.numbers.proofs.Values.{value-digits-8}
use Rattle.packed.specs.Part.{part, put}

module _ (a : List ℕ) (i : ℕ) (h : 64 * i + 64 ≤ length a) where
  -- The seven put back and then the first written: the eight put back.
  module _ (r : ℕ) (y : List ℕ) where
    abbrev seven : List ℕ
    seven = put (64 * i + 8) 56 a y

    before : length (take (64 * i + 8) a) ≡ 64 * i + 8
    before = length-take-le (64 * i + 8) a (omega arith)

    front : take (8 * (8 * i)) seven ≡ take (64 * i) a
    front =
        let e : 8 * (8 * i) ≡ 64 * i = omega arith in
        ap (λ n. take n seven) e ∙
        (take-append-le (64 * i) (take (64 * i + 8) a) _ (omega (arith, before)) ∙ take-take (64 * i) (64 * i + 8) a (omega arith))

    behind : drop (8 * (8 * i) + 8) seven ≡ y ++ drop (64 * i + 64 - 64 * i) (drop (64 * i) a)
    behind =
        let e : 8 * (8 * i) + 8 ≡ 64 * i + 8 = omega arith in
        let same : 64 * i + 8 + 56 ≡ 64 * i + 64 = omega arith in
        ap (λ n. drop n seven) e ∙
        (drop_at (take (64 * i + 8) a) _ (64 * i + 8) before ∙
        ap (λ z. y ++ z)
        (Post-is (64 * i + 8) (64 * i + 8 + 56) a (omega arith) ∙
        (ap (λ n. drop n a) same ∙ sym (Post-is (64 * i) (64 * i + 64) a (omega arith)))))

    pub eight : put_at seven (8 * i) r ≡ put (64 * i) 64 a (to_bytes 8 r ++ y)
    unfolding put_at
    eight =
        ap₂ (λ u v. u ++ (to_bytes 8 r ++ v)) front behind ∙
        ap (λ z. take (64 * i) a ++ z) (sym (append_assoc (to_bytes 8 r) y (drop (64 * i + 64 - 64 * i) (drop (64 * i) a))))

  -- Of the eight, the first number and the seven.
  first_of : number_at a (8 * i) ≡ from_bytes (take 8 (part (64 * i) 64 a))
  unfolding number_at
  first_of =
      let e : 8 * (8 * i) ≡ 64 * i = omega arith in
      ap from_bytes (ap (λ n. take 8 (drop n a)) e ∙ sym (take-take 8 (64 * i + 64 - 64 * i) (drop (64 * i) a) (omega arith)))

  pub seven-of : part (64 * i + 8) 56 a ≡ drop 8 (part (64 * i) 64 a)
  seven-of =
      let all : 64 * i + 64 - 64 * i ≡ 8 + 56 = omega arith in
      let few : 64 * i + 8 + 56 - (64 * i + 8) ≡ 56 = omega arith in
      let rest = drop (64 * i) a in
      ap₂ take few (sym (drop-drop 8 (64 * i) a)) ∙
      sym (ap (λ n. drop 8 (take n rest)) all ∙
      (ap (drop 8) (take-add 8 56 rest) ∙ drop_at (take 8 rest) (take 56 (drop 8 rest)) 8 (length-take-le 8 rest (omega (arith, length-drop (64 * i) a)))))

  module _ (r : ℕ) (y : List ℕ) (e : part (64 * i) 64 a ≡ to_bytes 8 r ++ y) where
    pub returned-read : r < 2 ^ 64 → number_at a (8 * i) ≡ r
    returned-read b =
        first_of ∙ (ap (λ s. from_bytes (take 8 s)) e ∙ (ap from_bytes (take_at (to_bytes 8 r) y 8 (length_digits 8 r)) ∙ value-digits-8 r b))

    pub answer-left : part (64 * i + 8) 56 a ≡ y
    answer-left = seven-of ∙ (ap (drop 8) e ∙ drop_at (to_bytes 8 r) y 8 (length_digits 8 r))
