-- What holds of every entry of a list, and of what is read past its end, after a store and in a row of one value.
-- Assumes nothing.
use mathlib.Core.Path.{◌≡◌, refl}
use mathlib.Core.List.{List, [], ◌∷◌, map}
use Prim.Native.Nat.{ℕ, zero, suc, ◌<◌}
use native.Mathlib.Nat.{le_of_suc-le-suc}
use native.Mathlib.Omega.{arith}
use lib.ListN.{length, get_or, take, set, replicate}

-- A store of a value that has the property.
pub all_set {ℓ} : {A : Type ℓ} (P : A → Type 0) (d : A) (xs : List A) (i : ℕ) (v : A) → ((j : ℕ) → P (get_or xs j d)) → P v → (j : ℕ) → P (get_or (set xs i v) j d)
all_set P d [] i v h p j = h j
all_set P d (x ∷ xs) zero v h p zero = p
all_set P d (x ∷ xs) zero v h p (suc j) = h (suc j)
all_set P d (x ∷ xs) (suc i) v h p zero = h zero
all_set P d (x ∷ xs) (suc i) v h p (suc j) = all_set P d xs i v (λ k. h (suc k)) p j

-- The first n entries of a list whose entries and default have the property.
pub all_take {ℓ} : {A : Type ℓ} (P : A → Type 0) (d : A) (n : ℕ) (xs : List A) → ((j : ℕ) → P (get_or xs j d)) → P d
    → (j : ℕ) → P (get_or (take n xs) j d)
all_take P d zero xs h p j = p
all_take P d (suc n) [] h p j = p
all_take P d (suc n) (x ∷ xs) h p zero = h zero
all_take P d (suc n) (x ∷ xs) h p (suc j) = all_take P d n xs (λ k. h (suc k)) p j

-- f of every number of a list, read at a place.
pub map_at : (f : ℕ → ℕ) (xs : List ℕ) (i : ℕ) → i < length xs → get_or (map f xs) i 0 ≡ f (get_or xs i 0)
map_at f [] i l = absurd (omega arith)
map_at f (x ∷ xs) zero l = refl
map_at f (x ∷ xs) (suc i) l = map_at f xs i (le_of_suc-le-suc l)

-- A row of the default.
pub all_replicate {ℓ} : {A : Type ℓ} (P : A → Type 0) (d : A) (n : ℕ) → P d → (j : ℕ) → P (get_or (replicate n d) j d)
all_replicate P d zero p j = p
all_replicate P d (suc n) p zero = p
all_replicate P d (suc n) p (suc j) = all_replicate P d n p j
