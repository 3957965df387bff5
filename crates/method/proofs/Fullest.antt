-- The fullest resource b: no load over capacity is greater, and those of lower number are less.
-- Assumes nothing.
use mathlib.Core.Path.{◌≡◌, refl}
use mathlib.Core.Bool.{Bool, true, false, cond}
use mathlib.Core.Logic.{⊎_elim}
use mathlib.Core.List.{List}
use Prim.Native.Nat.{ℕ, zero, suc, ◌*◌, ◌≤◌, ◌<◌}
use native.Mathlib.Nat.{le_refl, eq-or-lt_of_le, lt_of_mul-lt-mul_left, mul-le-mul_right, mul-lt-mul_of_pos_right}
use native.Mathlib.Omega.{arith}
use borrow.Author.Tests.{ltb-true, ltb-false}
use lib.Dec.{ltb}
use lib.ListN.{get_or}
use Rattle.method.specs.Answer.{fullest}

-- x / c ≤ y / d and y / d < z / f give x / c < z / f, multiplied out
ratio-lt : (x c y d z f : ℕ) → 0 < d → 0 < c → x * d ≤ y * c → y * f < z * d → x * f < z * c
ratio-lt x c y d z f p r h k =
    lt_of_mul-lt-mul_left d (omega (arith, mul-le-mul_right f h, mul-lt-mul_of_pos_right {k = c} k r))

pub record Fullest (caps : List ℕ) (loads : List ℕ) (n b : ℕ) : Type 0 where
  pub among : b ≤ n
  pub greatest : (e : ℕ) → e ≤ n → get_or loads e 0 * get_or caps b 0 ≤ get_or loads b 0 * get_or caps e 0
  pub lowest : (e : ℕ) → e < b → get_or loads e 0 * get_or caps b 0 < get_or loads b 0 * get_or caps e 0

pub is-fullest : (caps : List ℕ) (loads : List ℕ) (n : ℕ) → ((e : ℕ) → e ≤ n → 1 ≤ get_or caps e 0) → Fullest caps loads n (fullest caps loads n)
unfolding fullest
is-fullest caps loads zero pos =
    record {
      among = le_refl 0;
      greatest = λ e l. let z : e ≡ 0 = omega arith in rw z (le_refl _);
      lowest = λ e l. absurd (omega arith);
    }
is-fullest caps loads (suc n) pos = go (is-fullest caps loads n (λ e l. pos e (omega arith))) (ltb (Y b * C k) (Y k * C b)) refl
  where
    Y : ℕ → ℕ
    Y e = get_or loads e 0

    C : ℕ → ℕ
    C e = get_or caps e 0

    b : ℕ
    b = fullest caps loads n

    k : ℕ
    k = suc n

    go : Fullest caps loads n b → (t : Bool) → ltb (Y b * C k) (Y k * C b) ≡ t → Fullest caps loads k (cond t k b)
    go F true q =
        let h : Y b * C k < Y k * C b = ltb-true (Y b * C k) (Y k * C b) q in
        let less : (e : ℕ) → e < k → Y e * C k < Y k * C e =
        λ e l. ratio-lt (Y e) (C e) (Y b) (C b) (Y k) (C k) (pos b (omega (arith, F.among))) (pos e (omega arith)) (F.greatest e (omega arith)) h in
        record {
          among = le_refl k;
          greatest = λ e l. ⊎_elim (λ (s : e ≡ k). rw s (le_refl _)) (λ (s : e < k). omega (arith, less e s)) (eq-or-lt_of_le l);
          lowest = less;
        }
    go F false q =
        let h : Y k * C b ≤ Y b * C k = ltb-false (Y b * C k) (Y k * C b) q in
        record {
          among = omega (arith, F.among);
          greatest = λ e l. ⊎_elim (λ (s : e ≡ k). rw s h) (λ (s : e < k). F.greatest e (omega arith)) (eq-or-lt_of_le l);
          lowest = F.lowest;
        }
