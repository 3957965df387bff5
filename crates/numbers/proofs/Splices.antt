-- Laws of a splice: it is a front, and a splice right behind a front is one with it.
-- Assumes nothing.
use mathlib.Core.Path.{◌≡◌}
use Prim.Native.Nat.{ℕ, ◌+◌, ◌≤◌}
use mathlib.Core.List.{List, ◌++◌, append_assoc}
use native.Mathlib.Omega.{arith}
use lib.ListN.{length, take, length-append}
use lib.Seq.{take-append_seam, length-take-le}
use Rattle.numbers.specs.Parts.{splice}
use Rattle.numbers.proofs.Over.{over, drop-over}

-- A splice as a front.
pub splice-is-over : (s : List ℕ) (p : ℕ) (ds : List ℕ) → p ≤ length s → splice s p ds ≡ over (take p s ++ ds) s
splice-is-over s p ds h = rw (length-append, length-take-le p s, append_assoc)

-- A splice right behind a front makes it longer.
pub splice-after : (u s es : List ℕ) → splice (over u s) (length u) es ≡ over (u ++ es) s
splice-after u s es =
    rw (take-append_seam, drop-over u s (length u + length es) (omega arith), length-append, append_assoc)
