-- Whether an arc is at a node, and which is then its other end.
-- Assumes nothing.
use mathlib.Core.Path.{◌≡◌, refl}
use Prim.Native.Nat.{ℕ}
use lib.ListN.{get_or}
use Rattle.std.specs.Prelude.{Some, None}
use Rattle.index.specs.Indexing.{Side, Joining, forth, back, Seen}

module _ {c : Side} {e : ℕ} (v : ℕ) where
  pub seen-forth : get_or c.here e 0 ≡ v → Seen c v e (Some (get_or c.there e 0))
  seen-forth q = forth q refl

  pub seen_back :
      (get_or c.marks e 0 ≡ 0 → ⊥) → get_or c.there e 0 ≡ v → Seen c v e (Some (get_or c.here e 0))
  seen_back m q = back m q refl

  -- At neither end, or at the one there of an arc that is not reversible.
  pub seen-one-way : (get_or c.here e 0 ≡ v → ⊥) → get_or c.marks e 0 ≡ 0 → Seen c v e None
  seen-one-way n z = none
    where
      none : (x : ℕ) → Joining c v e x → ⊥
      none x (forth p q) = n p
      none x (back m p q) = m z

  pub seen_none : (get_or c.here e 0 ≡ v → ⊥) → (get_or c.there e 0 ≡ v → ⊥) → Seen c v e None
  seen_none n k = none
    where
      none : (x : ℕ) → Joining c v e x → ⊥
      none x (forth p q) = n p
      none x (back m p q) = k p
