-- One more entry in a table: the entries in use are those before it and the new one.
-- Assumes nothing.
use mathlib.Core.Path.{◌≡◌, sym, ap, ◌∙◌}
use mathlib.Core.List.{List, [], ◌∷◌, ◌++◌}
use Prim.Native.Nat.{ℕ, suc, ◌+◌, ◌-◌, ◌≤◌, ◌<◌}
use native.Mathlib.Numerals.{add-one}
use native.Mathlib.Omega.{arith}
use lib.ListN.{length, take, drop, set, replicate, length-set}
use lib.Seq.{length-take-le, take-suc-set, drop-set-lt, drop-drop}
use Rattle.dimacs.specs.Stage.{Tidy}

module _ {xs : List ℕ} {n : ℕ} where
  pub tidy-set : Tidy n xs → n < 256 → (x : ℕ) → Tidy (n + 1) (set xs n x)
  tidy-set t h x =
      record {
        size = length-set xs n x ∙ t.size;
        zeros =
            drop-set-lt (n + 1) xs n x (omega arith) ∙
            sym (drop-drop 1 n xs) ∙
            ap (drop 1) t.zeros ∙
            one_less (256 - n) (256 - (n + 1)) (omega arith);
      }
    where
      one_less : (k l : ℕ) → k ≡ suc l → drop {A = ℕ} 1 (replicate k 0) ≡ replicate l 0
      one_less k l e = rw e

  pub entries-set : Tidy n xs → n < 256 → (x : ℕ) → take (n + 1) (set xs n x) ≡ take n xs ++ (x ∷ [])
  entries-set t h x = rw add-one (take-suc-set xs n x (omega (arith, t.size)))

  pub entries : Tidy n xs → n ≤ 256 → length (take n xs) ≡ n
  entries t h = length-take-le n xs (omega (arith, t.size))
