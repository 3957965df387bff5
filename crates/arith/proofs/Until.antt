-- How far a scan for the first member that passes a test goes: what it passes by, and where it stops.
-- Assumes nothing.
use mathlib.Core.Path.{◌≡◌, refl, sym, ap, ◌∙◌}
use mathlib.Core.Bool.{Bool, true, false, cond}
use mathlib.Core.List.{List, [], ◌∷◌}
use Prim.Native.Nat.{ℕ, zero, suc, ◌+◌, ◌-◌, ◌≤◌, ◌<◌}
use native.Mathlib.Numerals.{add-one}
use native.Mathlib.Omega.{arith}
use lib.ListN.{length, get_or, drop, length-drop, drop_of_length-le}
use lib.Seq.{drop-cons, get_or-drop}
use Rattle.arith.specs.Scan.{until, scan}

module _ (f : ℕ → Bool) where
  until-within : (s : List ℕ) → until f s ≤ length s
  unfolding until
  until-within [] = omega arith
  until-within (x ∷ xs) = by (f x) (until-within xs)
    where
      by : (t : Bool) → until f xs ≤ length xs → cond t 0 (suc (until f xs)) ≤ suc (length xs)
      by true h = omega arith
      by false h = omega arith

  -- What is before the first member that passes does not pass,
  until-before : (s : List ℕ) (j : ℕ) → j < until f s → f (get_or s j 0) ≡ false
  unfolding until
  until-before [] j h = absurd (omega arith)
  until-before (x ∷ xs) j h = by (f x) refl j h (until-before xs)
    where
      by :
          (t : Bool) → f x ≡ t → (j : ℕ) → j < cond t 0 (suc (until f xs)) → ((j : ℕ) → j < until f xs → f (get_or xs j 0) ≡ false) →
          f (get_or (x ∷ xs) j 0) ≡ false
      by true e j h on = absurd (omega arith)
      by false e zero h on = e
      by false e (suc j) h on = on j (omega arith)

  -- and that member does, unless there is none.
  until-passes : (s : List ℕ) → until f s < length s → f (get_or s (until f s) 0) ≡ true
  unfolding until
  until-passes [] h = absurd (omega arith)
  until-passes (x ∷ xs) h = by (f x) refl h (until-passes xs)
    where
      by :
          (t : Bool) → f x ≡ t → cond t 0 (suc (until f xs)) < suc (length xs) → (until f xs < length xs → f (get_or xs (until f xs) 0) ≡ true) →
          f (get_or (x ∷ xs) (cond t 0 (suc (until f xs))) 0) ≡ true
      by true e h on = e
      by false e h on = on (omega arith)

  module _ (s : List ℕ) where
    pub scan-within : (at : ℕ) → at ≤ length s → scan f s at ≤ length s
    scan-within at h = omega (arith, until-within (drop at s), length-drop at s)

    pub scan-later : (at : ℕ) → at ≤ scan f s at
    scan-later at = omega arith

    pub scan-between : {end : ℕ} (at : ℕ) → at ≤ length s → end ≡ scan f s at → (at ≤ end) × (end ≤ length s)
    scan-between at h e = (omega arith, omega (arith, scan-within at h))

    pub scan-on : (i : ℕ) → i < length s → f (get_or s i 0) ≡ false → scan f s i ≡ scan f s (i + 1)
    unfolding until
    scan-on i h e = rw (drop-cons s i 0 h, e, add-one) (omega arith)

    pub scan-found : (i : ℕ) → i < length s → f (get_or s i 0) ≡ true → scan f s i ≡ i
    unfolding until
    scan-found i h e = rw (drop-cons s i 0 h, e) (omega arith)

    pub scan-ended : (i : ℕ) → length s ≤ i → scan f s i ≡ i
    unfolding until
    scan-ended i h = rw (drop_of_length-le s h) (omega arith)

    -- None that a scan passes by passes the test; where it stops one does, unless that is the end.
    pub scan-before : (i j : ℕ) → i ≤ j → j < scan f s i → f (get_or s j 0) ≡ false
    scan-before i j h b =
        let q : i + (j - i) ≡ j = omega arith in
        ap (λ k. f (get_or s k 0)) (sym q) ∙ (ap f (sym (get_or-drop i s (j - i) 0)) ∙ until-before (drop i s) (j - i) (omega arith))

    pub scan-passes : (i : ℕ) → scan f s i < length s → f (get_or s (scan f s i) 0) ≡ true
    scan-passes i h =
        ap f (sym (get_or-drop i s (until f (drop i s)) 0)) ∙ until-passes (drop i s) (omega (arith, length-drop i s))
