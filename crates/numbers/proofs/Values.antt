-- Laws of the number that a list of base-256 digits stands for: it and its digits determine each other.
-- Assumes nothing.
use mathlib.Core.Path.{◌≡◌, refl, sym, ◌∙◌}
use Prim.Native.Nat.{ℕ, zero, suc, ◌+◌, ◌*◌, ◌/◌, ◌%◌, ◌^◌, ◌≤◌, ◌<◌}
use mathlib.Core.List.{List, [], ◌∷◌, ◌++◌}
use native.Mathlib.Nat.{pow-suc, mod-one, mod-eq_of_lt, pow-le-pow_right, lt_of_lt_of_le, one-le-pow}
use native.Mathlib.Omega.{arith}
use lib.Arith.{mod-mul}
use lib.Dec.{lit<}
use lib.ListN.{length}
use Rattle.std.specs.Int.{w64, from_le_bytes}
use Rattle.numbers.specs.Digits.{from_bytes, to_bytes}
use Rattle.numbers.specs.Parts.{Bytes}

-- The lowest digits count once, the others by a power of 256.
pub value-append : (us vs : List ℕ) → from_bytes (us ++ vs) ≡ from_bytes us + 256 ^ length us * from_bytes vs
unfolding from_bytes
value-append [] vs = omega arith
value-append (u ∷ us) vs = rw pow-suc (omega (arith, value-append us vs))

-- The n lowest digits of x stand for x without its multiples of 256 ^ n.
pub value-digits : (n x : ℕ) → from_bytes (to_bytes n x) ≡ x % 256 ^ n
unfolding from_bytes to_bytes
value-digits zero x = sym (mod-one x)
value-digits (suc n) x =
    rw (pow-suc, mod-mul x {m = 256 ^ n} {c = 256} (one-le-pow n 256 (lit< tt)) (lit< tt)) (omega (arith, value-digits n (x / 256)))

-- Eight digits hold every number of 64 bits.
pub value-digits-8 : (x : ℕ) → x < 2 ^ 64 → from_bytes (to_bytes 8 x) ≡ x
value-digits-8 x h = value-digits 8 x ∙ mod-eq_of_lt h

-- Bytes stand for a number below 256 to their count.
pub value-below : (bs : List ℕ) → Bytes bs → from_bytes bs < 256 ^ length bs
unfolding from_bytes
value-below [] h = lit< tt
value-below (b ∷ bs) h = rw pow-suc (omega (arith, h 0, value-below bs (λ i. h (suc i))))

-- At most eight bytes stand for a number of 64 bits.
pub value-below-8 : (bs : List ℕ) → length bs ≤ 8 → Bytes bs → from_bytes bs < 2 ^ 64
value-below-8 bs l h = lt_of_lt_of_le (value-below bs h) (pow-le-pow_right (lit< tt) l)

-- The digits of what n bytes stand for are those bytes.
pub digits_value : (n : ℕ) (bs : List ℕ) → length bs ≡ n → Bytes bs → to_bytes n (from_bytes bs) ≡ bs
unfolding from_bytes to_bytes
digits_value zero [] e h = refl
digits_value zero (b ∷ bs) e h = absurd (omega arith)
digits_value (suc n) [] e h = absurd (omega arith)
digits_value (suc n) (b ∷ bs) e h =
    let low : (b + 256 * from_bytes bs) % 256 ≡ b = omega (arith, h 0) in
    let rest : (b + 256 * from_bytes bs) / 256 ≡ from_bytes bs = omega (arith, h 0) in
    rw (low, rest, digits_value n bs (omega arith) (λ i. h (suc i)))

-- Eight bytes stand for what std reads in them.
pub value-std : (bs : List ℕ) → length bs ≡ 8 → from_le_bytes w64 bs ≡ from_bytes bs
unfolding from_bytes
value-std (a ∷ b ∷ c ∷ d ∷ e ∷ f ∷ g ∷ h ∷ []) l = omega arith
value-std _ l = absurd (omega arith)
