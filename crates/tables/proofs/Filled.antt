-- A table whose places take the values f 0, f 1, .. in turn: what it holds on the way, and when all places have theirs.
-- Assumes nothing.
use mathlib.Core.Path.{◌≡◌, refl, sym, ◌∙◌}
use mathlib.Core.Logic.{⊎_elim}
use mathlib.Core.List.{List}
use Prim.Native.Nat.{ℕ, zero, suc, ◌+◌, ◌≤◌, ◌<◌}
use native.Mathlib.Nat.{le_refl, le_of_suc-le-suc, eq-or-lt_of_le}
use native.Mathlib.Numerals.{add-one}
use native.Mathlib.Omega.{arith}
use lib.ListN.{length, get_or, set, replicate, length-set, length-replicate, get_or-replicate}
use lib.Seq.{get_or-set_same, get_or-set_other, ext_get_or}

-- xs after the first n places took their values
unfoldable pub filled : {A : Type 0} → (ℕ → A) → ℕ → List A → List A
filled f zero xs = xs
filled f (suc n) xs = set (filled f n xs) n (f n)

-- The table keeps its length.
filled-length : {A : Type 0} (f : ℕ → A) (n : ℕ) (xs : List A) → length (filled f n xs) ≡ length xs
unfolding filled
filled-length f zero xs = refl
filled-length f (suc n) xs = length-set (filled f n xs) n (f n) ∙ filled-length f n xs

-- A place that has yet to take its value
filled-later : {A : Type 0} (d : A) (f : ℕ → A) (n : ℕ) (xs : List A) (j : ℕ) → n ≤ j → get_or (filled f n xs) j d ≡ get_or xs j d
unfolding filled
filled-later d f zero xs j l = refl
filled-later d f (suc n) xs j l =
    get_or-set_other (filled f n xs) n j (f n) d (λ (e : j ≡ n). omega arith) ∙ filled-later d f n xs j (omega arith)

-- and one that has taken it.
filled-before : {A : Type 0} (d : A) (f : ℕ → A) (n : ℕ) (xs : List A) (j : ℕ) → n ≤ length xs → j < n → get_or (filled f n xs) j d ≡ f j
unfolding filled
filled-before d f zero xs j h l = absurd (omega arith)
filled-before d f (suc n) xs j h l =
    ⊎_elim (λ (e : j ≡ n). rw e (get_or-set_same (filled f n xs) n (f n) d (rw filled-length h)))
    (λ (l : j < n). get_or-set_other (filled f n xs) n j (f n) d (λ (e : j ≡ n). omega arith) ∙ filled-before d f n xs j (omega arith) l)
    (eq-or-lt_of_le (le_of_suc-le-suc l))

-- The table ys on the way from xs, with n places done.
pub record Filling {A : Type 0} (f : ℕ → A) (n : ℕ) (xs ys : List A) : Type 0 where
  pub now : ys ≡ filled f n xs
  pub long : length ys ≡ length xs
  pub within : n ≤ length xs

-- No place has taken its value.
pub fill_none : {A : Type 0} (f : ℕ → A) (xs : List A) → Filling f 0 xs xs
unfolding filled
fill_none f xs = record { now = refl; long = refl; within = omega arith }

-- The next place takes its value.
pub fill_more : {A : Type 0} {f : ℕ → A} {n : ℕ} {xs ys : List A} (v : A) → Filling f n xs ys → n < length xs → v ≡ f n → Filling f (n + 1) xs (set ys n v)
unfolding filled
fill_more {f} {n} {xs} {ys} v h l k =
    record {
      now = rw (add-one, h.now, k);
      long = length-set ys n v ∙ h.long;
      within = omega arith;
    }

-- The next place still has what it had.
pub fill-next : {f : ℕ → ℕ} {n : ℕ} {xs ys : List ℕ} → Filling f n xs ys → get_or ys n 0 ≡ get_or xs n 0
fill-next {f} {n} {xs} {ys} h = rw h.now (filled-later 0 f n xs n (le_refl n))

-- When all places have taken theirs, the table is the list of those values.
fill-whole :
    {A : Type 0} {f : ℕ → A} {n : ℕ} {xs ys : List A} (d : A) (zs : List A) → Filling f n xs ys → length xs ≤ n → length zs ≡ length xs →
    ((j : ℕ) → j < length zs → get_or zs j d ≡ f j) → ys ≡ zs
fill-whole {f} {n} {xs} {ys} d zs h l e k =
    ext_get_or d ys zs (h.long ∙ sym e) (λ j b.
    rw h.now (filled-before d f n xs j h.within (omega (arith, h.long)) ∙ sym (k j (omega (arith, h.long)))))

pub fill-all :
    {f : ℕ → ℕ} {n : ℕ} {xs ys : List ℕ} (zs : List ℕ) → Filling f n xs ys → length xs ≤ n → length zs ≡ length xs →
    ((j : ℕ) → j < length zs → get_or zs j 0 ≡ f j) → ys ≡ zs
fill-all = fill-whole 0

-- One value at every place
pub fill-same : {A : Type 0} {v : A} {n : ℕ} {xs ys : List A} → Filling (λ j. v) n xs ys → length xs ≤ n → ys ≡ replicate (length xs) v
fill-same {v} {xs} h l =
    fill-whole v _ h l (length-replicate (length xs) v) (λ j b. get_or-replicate (length xs) j v v (rw length-replicate at b))
