-- Laws of a table whose first numbers were written: they are read back, and the rest is kept.
-- Assumes nothing.
use mathlib.Core.Path.{◌≡◌, refl, sym, ap, ◌∙◌}
use Prim.Native.Nat.{ℕ, zero, suc, ◌+◌, ◌*◌, ◌^◌, ◌≤◌, ◌<◌}
use mathlib.Core.List.{List, [], ◌∷◌, ◌++◌, append_assoc, map}
use native.Mathlib.Omega.{arith}
use lib.ListN.{length, take, drop, get_or, length-append, length-map}
use lib.Seq.{length-take-le}
use Rattle.std.proofs.lemmas.List.{map-append, take_more}
use Rattle.numbers.specs.Digits.{to_bytes}
use Rattle.numbers.specs.Numbers.{count, number_at, encode, written, put_at}
use Rattle.numbers.specs.Parts.{splice}
use Rattle.numbers.proofs.Digits.{length_digits}
use Rattle.numbers.proofs.Over.{over, length_over, drop-over}
use Rattle.numbers.proofs.Places.{number_at-next, number_at-past}
use Rattle.numbers.proofs.Splices.{splice-after}
use Rattle.numbers.proofs.Values.{value-digits-8}

pub length-encode : (xs : List ℕ) → length (encode xs) ≡ 8 * length xs
unfolding encode
length-encode [] = refl
length-encode (x ∷ xs) = rw (length-append, length_digits) (omega (arith, length-encode xs))

pub encode-append : (xs ys : List ℕ) → encode (xs ++ ys) ≡ encode xs ++ encode ys
unfolding encode
encode-append [] ys = refl
encode-append (x ∷ xs) ys = rw (encode-append xs ys, append_assoc)

written-is-over : (s xs : List ℕ) → written s xs ≡ over (encode xs) s
unfolding written
written-is-over s xs = rw length-encode

pub length-written : (s xs : List ℕ) → length xs ≤ count s → length (written s xs) ≡ length s
length-written s xs h = rw (written-is-over, length_over (encode xs) s (omega (arith, length-encode xs)))

-- The bytes past the numbers written are kept.
pub drop-written : (s xs : List ℕ) (n : ℕ) → 8 * length xs ≤ n → drop n (written s xs) ≡ drop n s
drop-written s xs n h = rw (written-is-over, drop-over (encode xs) s n (omega (arith, length-encode xs)))

-- Later numbers are kept.
pub number_at-written-later : (s xs : List ℕ) (j : ℕ) → length xs ≤ j → number_at (written s xs) j ≡ number_at s j
number_at-written-later s xs j h = rw (written-is-over, number_at-past (encode xs) s j (omega (arith, length-encode xs)))

number_at-encode : (xs t : List ℕ) (i : ℕ) → i < length xs → get_or xs i 0 < 2 ^ 64 → number_at (encode xs ++ t) i ≡ get_or xs i 0
unfolding number_at encode to_bytes
number_at-encode [] t i h b = absurd (omega arith)
number_at-encode (x ∷ xs) t zero h b = value-digits-8 x b
number_at-encode (x ∷ xs) t (suc i) h b =
    number_at-next (to_bytes 8 x) (encode xs ++ t) i (length_digits 8 x) ∙ number_at-encode xs t i (omega arith) b

-- The numbers written are read.
pub number_at-written : (s xs : List ℕ) (i : ℕ) → i < length xs → get_or xs i 0 < 2 ^ 64 → number_at (written s xs) i ≡ get_or xs i 0
unfolding written
number_at-written s xs i h b = number_at-encode xs (drop (8 * length xs) s) i h b

-- One number more, written behind the others.
pub put_at-written : (s xs : List ℕ) (x : ℕ) → put_at (written s xs) (length xs) x ≡ written s (xs ++ (x ∷ []))
unfolding put_at to_bytes encode
put_at-written s xs x =
    let put : splice (written s xs) (8 * length xs) (to_bytes 8 x) ≡ over (encode xs ++ to_bytes 8 x) s = rw (written-is-over, ← length-encode) (splice-after (encode xs) s (to_bytes 8 x)) in
    put ∙ ap (λ (u : List ℕ). over u s) (sym (encode-append xs (x ∷ []))) ∙ sym (written-is-over s (xs ++ (x ∷ [])))

-- The next number that a list stands for, written behind the ones before it.
pub written-more :
    {A : Type 0} (bits : A → ℕ) (s : List ℕ) (xs : List A) (i : ℕ) (x : A) → i < length xs → x ≡ get_or xs i x →
    put_at (written s (map bits (take i xs))) i (bits x) ≡ written s (map bits (take (i + 1) xs))
written-more bits s xs i x h e =
    let before = map bits (take i xs) in
    let first : length before ≡ i = length-map (take i xs) bits ∙ length-take-le i xs (omega arith) in
    rw (take_more xs i x h, ← e, map-append) (rw first at (put_at-written s before (bits x)))
