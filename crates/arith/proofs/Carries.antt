-- One pass over two lists of limbs that multiplies by one limb, adds and carries: what stands after i limbs, and at the end.
-- Assumes nothing.
use mathlib.Core.Path.{◌≡◌, ap}
use mathlib.Core.List.{List}
use Prim.Native.Nat.{ℕ, zero, suc, ◌+◌, ◌*◌, ◌-◌, ◌/◌, ◌%◌, ◌^◌, ◌≤◌, ◌<◌}
use native.Mathlib.Nat.{pow-suc, mul-le-mul, div-add-mod, mod-lt, lt_of_lt_of_le, pow-le-pow_right}
use native.Mathlib.Omega.{arith}
use lib.ListN.{get_or, take, set, replicate}
use Rattle.arith.specs.Limbs.{base, width, limit, from_limbs, Limbs, Writes}
use Rattle.arith.proofs.Values.{value-take, value_set, value-all}
use Rattle.arith.proofs.Writing.{limbs-set, limbs-zeros}

-- After i limbs of xs * k + ys: they stand in r, and c is carried.
pub record Carried (k : ℕ) (xs ys r : List ℕ) (c i : ℕ) : Type 0 where
  pub limbs : Limbs width r
  pub small : c < base
  pub sum : from_limbs (take i r) + base ^ i * c ≡ from_limbs (take i xs) * k + from_limbs (take i ys)

pub carried-start : (k : ℕ) (xs ys : List ℕ) → Carried k xs ys (replicate width 0) 0 0
unfolding from_limbs
carried-start k xs ys = record { limbs = limbs-zeros width; small = omega arith; sum = omega arith }

-- What a turn cuts into a limb and the next carry. It fits 64 bits.
abbrev pub turn : ℕ → ℕ → ℕ → ℕ → ℕ
turn a k b c = a * k + b + c

pub turn-fits : (a k b c : ℕ) → a < base → k < base → b < base → c < base → turn a k b c < 2 ^ 64
turn-fits a k b c ha hk hb hc =
    omega (arith, mul-le-mul {n₁ = a} {m₁ = k} {n₂ = base - 1} {m₂ = base - 1} (omega arith) (omega arith))

turn-sum : (v p c x k y a b q m : ℕ) → v + p * c ≡ x * k + y → base * q + m ≡ turn a k b c → v + p * m + p * base * q ≡ (x + p * a) * k + (y + p * b)
turn-sum v p c x k y a b q m e f = omega (arith, ap (λ t. p * t) f)

-- A turn writes one limb more.
module _ {k : ℕ} {xs ys r : List ℕ} {c i : ℕ} (lx : Limbs width xs) (ly : Limbs width ys) (hk : k < base) (hi : i < width) (w : Carried k xs ys r c i) where
  abbrev t : ℕ
  t = turn (get_or xs i 0) k (get_or ys i 0) c

  pub carried_step : Carried k xs ys (set r i (t % base)) (t / base) (suc i)
  carried_step =
      record {
        limbs = limbs-set r i (t % base) w.limbs (mod-lt t (omega arith));
        small = omega (arith, turn-fits (get_or xs i 0) k (get_or ys i 0) c (lx.below i) hk (ly.below i) w.small);
        sum =
            rw (value_set r i (t % base) (omega (arith, w.limbs.size)), value-take xs i, value-take ys i, pow-suc base i)
            (turn-sum (from_limbs (take i r)) (base ^ i) c (from_limbs (take i xs)) k (from_limbs (take i ys)) (get_or xs i 0) (get_or ys i 0) (t / base) (t % base) w.sum (div-add-mod t base));
      }

no-carry : (v p c n : ℕ) → v + p * c ≡ n → n < p → v ≡ n
no-carry v p zero n e h = omega arith
no-carry v p (suc c) n e h = omega arith

-- What fits leaves no carry.
pub carried-end : {k : ℕ} {xs ys r : List ℕ} {c i : ℕ} → Carried k xs ys r c i → Limbs width xs → Limbs width ys → width ≤ i → from_limbs xs * k + from_limbs ys < limit → Writes r (from_limbs xs * k + from_limbs ys)
unfolding limit
carried-end {k} {xs} {ys} {r} {c} {i} w lx ly hi h =
    record {
      limbs = w.limbs;
      number =
          no-carry (from_limbs r) (base ^ i) c (from_limbs xs * k + from_limbs ys)
          (rw (value-all xs lx hi, value-all ys ly hi, value-all r w.limbs hi) at w.sum)
          (lt_of_lt_of_le h (pow-le-pow_right {n = base} (omega arith) hi));
    }
