-- A node leaves the list of a search.
-- Assumes nothing.
use mathlib.Core.Path.{◌≡◌}
use mathlib.Core.Logic.{⊎_elim}
use mathlib.Core.List.{List}
use Prim.Native.Nat.{ℕ, ◌≤◌}
use native.Mathlib.Omega.{arith}
use lib.ListN.{get_or, set, length-set}
use lib.Seq.{get_or-set_other}
use Rattle.paths.specs.Worklist.{Worklist, TakenOut}
use Rattle.paths.proofs.Flags.{flagged-was}
use Rattle.paths.proofs.Relaxing.{set-entry}

-- Its flag counts no more.
pub taken_out :
    {n : ℕ} {listed : List ℕ} {size : ℕ} → Worklist n listed size → (v : ℕ) → (1 ≤ v) × (v ≤ n) → 1 ≤ get_or listed v 0 →
    TakenOut n listed size v (set listed v 0)
taken_out {n} {listed} L v node has =
    record {
      worklist =
          record {
            room = rw length-set L.room;
            flags = λ u c.
                ⊎_elim
                (λ (q : get_or (set listed v 0) u 0 ≡ get_or listed u 0). rw q (L.flags u c))
                (λ (q : (u ≡ v) × (get_or (set listed v 0) u 0 ≡ 0)). omega arith)
                (set-entry listed v 0 u);
            count = omega (arith, L.count, L.flags v node.1, flagged-was n v listed node.0 node.1 L.room);
          };
      node = node;
      others = λ u ne. get_or-set_other listed v u 0 0 ne;
    }
