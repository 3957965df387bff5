-- The table follows document 01's rule: L is the least whole number, at least 1, with (1 + 1/q)^L ≥ m. There is only one such number.
-- Assumes nothing.
use mathlib.Core.Path.{◌≡◌}
use mathlib.Core.Bool.{Bool, not, ◌&&◌, ◌||◌}
use mathlib.Core.Logic.{⊎_elim}
use Prim.Native.Nat.{ℕ, zero, suc, ◌+◌, ◌-◌, ◌*◌, ◌^◌, ◌≤◌, ◌<◌}
use native.Mathlib.Nat.{pow-suc, add-suc, add-zero, mul-le-mul_right, add-sub_of_le, lt_of_not-le, not-le_of_lt}
use native.Mathlib.Omega.{arith}
use lib.Dec.{T, leb, leb→le, nleb→lt}
use Rattle.length.specs.Level.{level, Level}
use Rattle.length.specs.Levels.{levels}
use Rattle.arith.proofs.Same.{and_parts}
use Rattle.length.proofs.Every.{or_cases}
use Rattle.length.proofs.Lookup.{tested, lookup}

-- (1 + 1/q)^l ≥ m, multiplied by q^l
enough : ℕ → ℕ → ℕ → Bool
enough m q l = leb (m * q ^ l) ((q + 1) ^ l)

-- l is enough, and is 1 or follows a number that is not.
rule : ℕ → ℕ → ℕ → Bool
rule m q l = leb 1 l && (enough m q l && (leb l 1 || not (enough m q (l - 1))))

passes : T (tested rule)
unfolding levels rule enough
passes = tt

-- A number below one that is not enough is not enough.
down : (m q j d : ℕ) → (q + 1) ^ (j + d) < m * q ^ (j + d) → (q + 1) ^ j < m * q ^ j
down m q j zero h = rw add-zero at h
down m q j (suc d) h =
    let k = j + d in
    let h' : (q + 1) ^ k * (q + 1) < m * (q ^ k * q) = simp (add-suc, pow-suc) at h in
    down m q j d (lt_of_not-le (λ (e : m * q ^ k ≤ (q + 1) ^ k). omega (arith, h', mul-le-mul_right q e)))

ruled : (m q l : ℕ) → T (rule m q l) → Level m q l
unfolding rule enough
ruled m q l t =
    let first : Bool = leb l 1 || not (enough m q (l - 1)) in
    let (positive, more) = and_parts (leb 1 l) (enough m q l && first) t in
    let (reached, new) = and_parts (enough m q l) first more in
    record {
      least = leb→le 1 l positive;
      enough = leb→le (m * q ^ l) ((q + 1) ^ l) reached;
      below = λ j a b. ⊎_elim
          (λ (s : T (leb l 1)). omega (arith, leb→le l 1 s))
          (λ (s : T (not (enough m q (l - 1)))). down m q j (l - 1 - j) (rw (add-sub_of_le {n = l - 1} {m = j} (omega arith)) (nleb→lt _ _ s)))
          (or_cases (leb l 1) (not (enough m q (l - 1))) new);
    }

-- Every entry of the table is the L of its m and q.
pub level-rule : (m q : ℕ) → 1 ≤ m → m ≤ 256 → 4 ≤ q → q ≤ 16 → Level m q (level m q)
level-rule m q m≥ m≤ q≥ q≤ = ruled m q (level m q) (lookup rule passes m q m≥ m≤ q≥ q≤)

not-less : {m q l l' : ℕ} → Level m q l → Level m q l' → l < l' → ⊥
not-less {m} {q} {l} a b h = not-le_of_lt (b.below l a.least h) a.enough

-- No other number is.
pub level-unique : {m q l l' : ℕ} → Level m q l → Level m q l' → l ≡ l'
level-unique {m} {q} {l} {l'} a b =
    let h : l < l' → ⊥ = not-less a b in
    let h' : l' < l → ⊥ = not-less b a in
    omega arith
