-- A node comes onto the list of a search, unless it is there.
-- Assumes nothing.
use mathlib.Core.Path.{◌≡◌, ap, ◌∙◌}
use mathlib.Core.Bool.{Bool, true, false}
use mathlib.Core.Logic.{⊎_elim}
use mathlib.Core.List.{List}
use Prim.Native.Nat.{ℕ, ◌+◌, ◌-◌, ◌≤◌, ◌<◌}
use native.Mathlib.Omega.{arith}
use lib.ListN.{get_or, set, length-set}
use lib.Seq.{get_or-set_same, set-get_or}
use Rattle.arith.proofs.Order.{le-or-lt}
use Rattle.paths.specs.Worklist.{Worklist, Enlisted, Met}
use Rattle.paths.proofs.Flags.{flagged-set, flagged-was}
use Rattle.paths.proofs.Worklists.{worklist-flag}
use Rattle.paths.proofs.Relaxing.{set-entry}

-- No test is both.
pub apart : {b : Bool} → b ≡ true → b ≡ false → ⊥
apart t f = let z : ◌≡◌ {A = ℕ} 0 1 = cc in omega arith

module _ {n : ℕ} {listed : List ℕ} {size : ℕ} (L : Worklist n listed size) (v : ℕ) (node : (1 ≤ v) × (v ≤ n)) where
  -- A node that is there.
  enlisted-already : (get_or listed v 0 ≡ 0 → ⊥) → Enlisted n listed size v listed size
  enlisted-already h =
      record { worklist = L; has = worklist-flag L v node.1 h; still = λ u q. q; grown = omega arith }

  module _ (off : get_or listed v 0 ≡ 0) where
    -- an entry of the flags is as before, or it is that of v and is 1
    flag :
        (P : ℕ → ℕ → Type 0) → ((u : ℕ) → P u (get_or listed u 0)) → P v 1 → (u : ℕ) → P u (get_or (set listed v 1) u 0)
    flag P old new u =
        ⊎_elim
        (λ (q : get_or (set listed v 1) u 0 ≡ get_or listed u 0). rw q (old u))
        (λ (q : (u ≡ v) × (get_or (set listed v 1) u 0 ≡ 1)). rw (q.1, q.0) new)
        (set-entry listed v 1 u)

    -- Any other node counts beside those that are there.
    enlisted-now : Enlisted n listed size v (set listed v 1) (size + 1)
    enlisted-now =
        record {
          worklist =
              record {
                room = rw length-set L.room;
                flags = flag (λ u x. u ≤ n → x ≤ 1) L.flags (λ b. omega arith);
                count =
                    omega (
                      arith,
                      L.count,
                      flagged-set n v 1 listed node.0 node.1 L.room,
                      flagged-was n v listed node.0 node.1 L.room,
                    );
              };
          has = get_or-set_same listed v 1 0 (omega (arith, L.room));
          still = flag (λ u x. x ≡ 0 → get_or listed u 0 ≡ 0) (λ u q. q) (λ q. off);
          grown = omega arith;
        }

  -- In either case its flag is 1 then, and counts if it was 0.
  enlisted : Enlisted n listed size v (set listed v 1) (size + (1 - get_or listed v 0))
  enlisted =
      ⊎_elim
      (λ (on : 1 ≤ get_or listed v 0).
      let one : get_or listed v 0 ≡ 1 = worklist-flag L v node.1 (λ q. omega arith) in
      let same : set listed v 1 ≡ listed = ap (set listed v) (omega (arith, one)) ∙ set-get_or listed v 0 in
      let none : size + (1 - get_or listed v 0) ≡ size = omega arith in
      rw (same, none) (enlisted-already (λ q. omega arith)))
      (λ (off : get_or listed v 0 < 1).
      let more : size + (1 - get_or listed v 0) ≡ size + 1 = omega arith in
      rw more (enlisted-now (omega arith)))
      (le-or-lt 1 (get_or listed v 0))

  -- The flag that is written is 1 where the node is to come, else the one that was there.
  module _ {come : Bool} {x : ℕ} where
    pub met-came : come ≡ true → x ≡ 1 → Met come n listed size v (set listed v x) (size + (x - get_or listed v 0))
    met-came c e = rw e (record { came = λ _. enlisted; stayed = λ s. absurd (apart c s) })

    pub met-stayed : come ≡ false → x ≡ get_or listed v 0 → Met come n listed size v (set listed v x) (size + (x - get_or listed v 0))
    met-stayed c e = rw e (record { came = λ s. absurd (apart s c); stayed = λ _. (set-get_or listed v 0, omega arith) })
