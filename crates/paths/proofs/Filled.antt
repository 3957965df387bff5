-- A table with one value for every node, and behind these what was there.
-- Assumes nothing.
use mathlib.Core.Path.{◌≡◌, ap, ◌∙◌}
use mathlib.Core.List.{List, ◌++◌}
use Prim.Native.Nat.{ℕ, ◌+◌, ◌-◌, ◌≤◌, ◌<◌}
use native.Mathlib.Omega.{arith}
use lib.ListN.{length, get_or, drop, replicate, length-append, length-replicate, get_or-replicate, get_or-append}
use lib.Seq.{get_or-append-add, get_or-drop}

module _ (n x : ℕ) (rest : List ℕ) where
  pub filled_at : (v : ℕ) → v ≤ n → get_or (replicate (n + 1) x ++ rest) v 0 ≡ x
  filled_at v b =
      get_or-append (replicate (n + 1) x) rest 0 v (omega (arith, length-replicate (n + 1) x)) ∙ get_or-replicate (n + 1) v x 0 (omega arith)

  pub filled-room : n < length (replicate (n + 1) x ++ rest)
  filled-room = omega (arith, length-append (replicate (n + 1) x) rest, length-replicate (n + 1) x)

-- What is behind the nodes is as it was.
pub filled-behind : (n x : ℕ) (old : List ℕ) (i : ℕ) → n < i → get_or (replicate (n + 1) x ++ drop (n + 1) old) i 0 ≡ get_or old i 0
filled-behind n x old i b =
    let k = i - (n + 1) in
    let filled = replicate (n + 1) x in
    let at : i ≡ length filled + k = omega (arith, length-replicate (n + 1) x) in
    ap (λ j. get_or (filled ++ drop (n + 1) old) j 0) at ∙
    (get_or-append-add filled (drop (n + 1) old) k 0 ∙ (get_or-drop (n + 1) old k 0 ∙ ap (λ j. get_or old j 0) (omega arith)))
