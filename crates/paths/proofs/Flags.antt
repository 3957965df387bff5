-- How many nodes have a flag: each counts beside the others.
-- Assumes nothing.
use mathlib.Core.Path.{◌≡◌, sym, ap, ◌∙◌}
use mathlib.Core.List.{List}
use Prim.Native.Nat.{ℕ, zero, suc, ◌+◌, ◌≤◌, ◌<◌}
use native.Mathlib.Nat.{suc_inj}
use native.Mathlib.Omega.{arith}
use lib.ListN.{length, get_or, set}
use lib.Seq.{get_or-set_same, get_or-set_other, set-get_or}
use Rattle.arith.specs.Sum.{sum}
use Rattle.arith.proofs.Sums.{sum-change}

-- The flags of the nodes 1 to n.
abbrev pub flagged : ℕ → List ℕ → ℕ
flagged n listed = sum n (λ i. get_or listed (suc i) 0)

-- A flag that is set counts beside the others,
pub flagged-set : (n v x : ℕ) (listed : List ℕ) → 1 ≤ v → v ≤ n → n < length listed → flagged n (set listed v x) ≡ flagged n (set listed v 0) + x
flagged-set n zero x listed a b c = absurd (omega arith)
flagged-set n (suc k) x listed a b c =
    sum-change
    n
    (λ i. get_or (set listed (suc k) 0) (suc i) 0)
    (λ i. get_or (set listed (suc k) x) (suc i) 0)
    k
    x
    (omega arith)
    (λ i h ne. other i x ne ∙ sym (other i 0 ne))
    (omega (arith, get_or-set_same listed (suc k) x 0 (omega arith), get_or-set_same listed (suc k) 0 0 (omega arith)))
  where
    other : (i y : ℕ) → (i ≡ k → ⊥) → get_or (set listed (suc k) y) (suc i) 0 ≡ get_or listed (suc i) 0
    other i y ne = get_or-set_other listed (suc k) (suc i) y 0 (λ q. ne (suc_inj q))

-- and so does the one that was there.
pub flagged-was : (n v : ℕ) (listed : List ℕ) → 1 ≤ v → v ≤ n → n < length listed → flagged n listed ≡ flagged n (set listed v 0) + get_or listed v 0
flagged-was n v listed a b c =
    ap (flagged n) (sym (set-get_or listed v 0)) ∙ flagged-set n v (get_or listed v 0) listed a b c
