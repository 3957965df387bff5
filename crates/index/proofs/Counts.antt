-- How many arcs are put into an index: no more than have an end there.
-- Assumes nothing.
use mathlib.Core.Path.{◌≡◌, refl}
use mathlib.Core.Bool.{Bool, true, false}
use mathlib.Core.List.{List}
use mathlib.Core.Logic.{⊎_elim}
use Prim.Native.Nat.{ℕ, zero, suc, ◌+◌, ◌≤◌, ◌<◌}
use native.Mathlib.Nat.{eq-or-lt_of_le, le_refl}
use native.Mathlib.Numerals.{add-one}
use native.Mathlib.Omega.{arith}
use lib.Dec.{ltb, eqb}
use lib.ListN.{length, get_or}
use borrow.Author.Tests.{ltb-true, ltb-false, eqb-true, eq-eqb}
use Rattle.arith.specs.Sum.{sum}
use Rattle.arith.proofs.Sums.{sum-const, sum-add, sum-le}
use Rattle.index.specs.Indexing.{Side, Columns, Joining, forth, back, bit, taken, used}

-- A number is before v or is v: at most one of them,
before-or-at : (x v : ℕ) → bit (ltb x v) + bit (eqb x v) ≤ 1
before-or-at x v = by_tests (ltb x v) (eqb x v) refl refl
  where
    by_tests : (a b : Bool) → ltb x v ≡ a → eqb x v ≡ b → bit a + bit b ≤ 1
    by_tests true true p q = absurd (omega (arith, ltb-true x v p, eqb-true x v q))
    by_tests true false p q = omega arith
    by_tests false true p q = omega arith
    by_tests false false p q = omega arith

-- and then it is before the next.
before-next : (x v : ℕ) → bit (ltb x v) + bit (eqb x v) ≤ bit (ltb x (v + 1))
before-next x v = by-test (ltb x (v + 1)) (ltb x v) (eqb x v) refl refl refl
  where
    by-test : (a b c : Bool) → ltb x (v + 1) ≡ a → ltb x v ≡ b → eqb x v ≡ c → bit b + bit c ≤ bit a
    by-test true b c p q r = omega (arith, rw (q, r) at (before-or-at x v))
    by-test false true c p q r = absurd (omega (arith, ltb-false x (v + 1) p, ltb-true x v q))
    by-test false false true p q r = absurd (omega (arith, ltb-false x (v + 1) p, eqb-true x v r))
    by-test false false false p q r = omega arith

-- A longer sum is no less.
sum-longer : (m n : ℕ) (f : ℕ → ℕ) → m ≤ n → sum m f ≤ sum n f
unfolding sum
sum-longer m zero f h = let q : m ≡ 0 = omega arith in rw q (omega arith)
sum-longer m (suc n) f h =
    ⊎_elim
    (λ (q : m ≡ suc n). rw q (le_refl _))
    (λ (l : m < suc n). omega (arith, sum-longer m n f (omega arith)))
    (eq-or-lt_of_le h)

module _ (here : List ℕ) (v : ℕ) where
  pub taken-within : (e : ℕ) → e ≤ length here → taken here v e ≤ length here
  unfolding taken
  taken-within e h =
      let before : ℕ → ℕ = λ i. bit (ltb (get_or here i 0) v) in
      let at : ℕ → ℕ = λ i. bit (eqb (get_or here i 0) v) in
      omega (
        arith,
        sum-longer e (length here) at h,
        sum-add (length here) before at,
        sum-le (length here) (λ i. before i + at i) (λ i. 1) (λ i c. before-or-at (get_or here i 0) v),
        sum-const (length here) 1,
      )

  -- One arc more,
  pub taken-put : (e : ℕ) → get_or here e 0 ≡ v → taken here v (e + 1) ≡ taken here v e + 1
  unfolding taken sum
  taken-put e q = rw (add-one, eq-eqb (get_or here e 0) v q) (omega arith)

  pub taken-on : (e : ℕ) → taken here v e ≤ taken here v (e + 1)
  unfolding taken sum
  taken-on e = rw add-one (omega arith)

  -- and all arcs of one node more.
  pub taken_next : taken here v (length here) ≤ taken here (v + 1) 0
  unfolding taken
  taken_next =
      let before : ℕ → ℕ = λ i. bit (ltb (get_or here i 0) v) in
      let at : ℕ → ℕ = λ i. bit (eqb (get_or here i 0) v) in
      omega (
        arith,
        sum-add (length here) before at,
        sum-le (length here) (λ i. before i + at i) (λ i. bit (ltb (get_or here i 0) (v + 1))) (λ i c. before-next (get_or here i 0) v),
      )

-- Both columns together: an arc that is put is counted by the end at which it is,
module _ (c : Side) (v : ℕ) where
  pub used-within : (e : ℕ) → Columns c → e ≤ length c.here → used c v e ≤ length c.here + length c.here
  used-within e C h = omega (arith, taken-within c.here v e h, taken-within c.there v e (omega (arith, C.others)), C.others)

  pub used-on : (e : ℕ) → used c v e ≤ used c v (e + 1)
  used-on e = omega (arith, taken-on c.here v e, taken-on c.there v e)

  pub used-put : (e w : ℕ) → Joining c v e w → used c v e + 1 ≤ used c v (e + 1)
  used-put e w (forth q r) = omega (arith, taken-put c.here v e q, taken-on c.there v e)
  used-put e w (back m q r) = omega (arith, taken-put c.there v e q, taken-on c.here v e)

  -- and all arcs of one node more.
  pub used-next : Columns c → used c v (length c.here) ≤ used c (v + 1) 0
  used-next C = omega (arith, taken_next c.here v, rw C.others at (taken_next c.there v))
