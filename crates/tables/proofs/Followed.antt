-- A table updated along a path: what it is after the first arcs of the path, and one arc further.
-- Assumes nothing.
use mathlib.Core.Path.{◌≡◌, refl}
use mathlib.Core.List.{List, [], ◌∷◌}
use Prim.Native.Nat.{ℕ, zero, suc, ◌+◌, ◌<◌}
use native.Mathlib.Nat.{le_of_suc-le-suc, not-suc-le-zero}
use native.Mathlib.Numerals.{add-one}
use lib.ListN.{length, get_or, take, set}
use Rattle.method.specs.Iteration.{update}
use Rattle.method.proofs.Times.{update-length}

-- xs after arc e had its turn
abbrev turned : (ℕ → ℕ → ℕ) → ℕ → List ℕ → List ℕ
turned f e xs = set xs e (f e (get_or xs e 0))

-- One arc more is that arc's turn after the others'.
further : (f : ℕ → ℕ → ℕ) (p xs : List ℕ) (j : ℕ) → j < length p → turned f (get_or p j 0) (update f (take j p) xs) ≡ update f (take (suc j) p) xs
unfolding update
further f [] xs j l = absurd (not-suc-le-zero l)
further f (e ∷ p) xs zero l = refl
further f (e ∷ p) xs (suc j) l = further f p (turned f e xs) j (le_of_suc-le-suc l)

-- The table ys on the way from xs, with the first j arcs of the path p done.
pub record Following (f : ℕ → ℕ → ℕ) (p : List ℕ) (j : ℕ) (xs ys : List ℕ) : Type 0 where
  pub now : ys ≡ update f (take j p) xs

-- No arc has had its turn.
pub follow-none : (f : ℕ → ℕ → ℕ) (p xs : List ℕ) → Following f p 0 xs xs
unfolding update
follow-none f p xs = record { now = refl }

-- The next arc of the path has its turn.
pub follow-more :
    {f : ℕ → ℕ → ℕ} {p : List ℕ} {j : ℕ} {xs ys : List ℕ} (e v : ℕ) → Following f p j xs ys → j < length p → e ≡ get_or p j 0 → v ≡ f e (get_or ys e 0) →
    Following f p (j + 1) xs (set ys e v)
follow-more {f} {p} {j} {xs} {ys} e v h l k w =
    record { now = rw (add-one, w, k, h.now) (further f p xs j l) }

-- The table keeps its length.
pub follow-long : {f : ℕ → ℕ → ℕ} {p : List ℕ} {j : ℕ} {xs ys : List ℕ} → Following f p j xs ys → length ys ≡ length xs
follow-long {f} {p} {j} {xs} h = rw h.now (update-length f (take j p) xs)
