-- What every line keeps: the counts within their bounds, three numbers to an arc, and no line numbered past 65,536.
-- Assumes nothing.
use mathlib.Core.Path.{◌≡◌, refl}
use mathlib.Core.Bool.{Bool, true, false, cond}
use mathlib.Core.List.{List, [], ◌∷◌, ◌++◌}
use Rattle.std.specs.Prelude.{Option, Some, None}
use Prim.Native.Nat.{ℕ, suc, ◌+◌, ◌≤◌}
use native.Mathlib.Omega.{arith}
use lib.Dec.{ltb}
use lib.ListN.{length, length-append}
use Rattle.network.specs.Refusal.{refusal_code}
use Rattle.network.specs.Sound.{Within}
use Rattle.network.specs.Verdict.{outside}
use Rattle.network.specs.declared.Refusal.TheVariants.{Nodes, Arcs, Layout}
use Rattle.network.proofs.Bounds.{within}
use Rattle.lines.specs.Meaning.{meaning}
use Rattle.lines.specs.declared.Line.{Line}
use Rattle.lines.specs.declared.Line.TheVariants.{Comment, Problem, Source, Sink, Arc, Broken}
use Rattle.dimacs.specs.Progress.{Progress, begun, with_source, with_sink, with_arc}
use Rattle.dimacs.specs.Reading.{Reading, before, past, down, opening, once, following, next, read_lines}

-- Past the p line: its counts are within bounds, and each arc so far has its three numbers.
pub record Kept (p : Progress) : Type 0 where
  pub nodes : Within 2 64 p.nodes
  pub wanted : Within 1 256 p.wanted
  pub heads : length p.heads ≡ length p.tails
  pub capacities : length p.capacities ≡ length p.tails

-- No line is numbered past 65,536.
abbrev pub Sized : Reading → Type 0
Sized before = Unit {0}
Sized (past p) = Kept p
Sized (down r) = (refusal_code r).place ≤ 65536

counted : (i n m : ℕ) → Sized (opening i (Problem n m))
unfolding opening begun
counted i n m = by (outside 2 64 n) refl (outside 1 256 m) refl
  where
    by : (s : Bool) → outside 2 64 n ≡ s → (t : Bool) → outside 1 256 m ≡ t → Sized (cond s (down Nodes) (cond t (down Arcs) (past (begun n m))))
    by true d t e = omega arith
    by false d true e = omega arith
    by false d false e = record { nodes = within 2 64 n d; wanted = within 1 256 m e; heads = refl; capacities = refl }

module _ (i : ℕ) (l : i ≤ 65536) where
  opening-sized : (x : Line) → Sized (opening i x)
  unfolding opening
  opening-sized Comment = tt
  opening-sized (Problem n m) = counted i n m
  opening-sized (Source v) = l
  opening-sized (Sink v) = l
  opening-sized (Arc u v c) = l
  opening-sized Broken = l

  once-sized : (o : Option ℕ) {p : Progress} → Kept p → Sized (once i o p)
  unfolding once
  once-sized None k = k
  once-sized (Some w) k = l

  arc-sized : (u v c : ℕ) (p : Progress) (t : Bool) → Kept p → Sized (cond t (past (with_arc u v c p)) (down (Layout i)))
  unfolding with_arc
  arc-sized u v c p false k = l
  arc-sized u v c p true k =
      record { nodes = k.nodes; wanted = k.wanted; heads = one_more v p.heads k.heads; capacities = one_more c p.capacities k.capacities }
    where
      one_more : (y : ℕ) (xs : List ℕ) → length xs ≡ length p.tails → length (xs ++ (y ∷ [])) ≡ length (p.tails ++ (u ∷ []))
      one_more y xs e = simp length-append (omega arith)

  following-sized : (x : Line) (p : Progress) → Kept p → Sized (following i x p)
  unfolding following with_source with_sink
  following-sized Comment p k = k
  following-sized (Problem n m) p k = l
  following-sized (Source v) p k = once-sized p.source (record { nodes = k.nodes; wanted = k.wanted; heads = k.heads; capacities = k.capacities })
  following-sized (Sink v) p k = once-sized p.sink (record { nodes = k.nodes; wanted = k.wanted; heads = k.heads; capacities = k.capacities })
  following-sized (Arc u v c) p k = arc-sized u v c p (ltb (length p.tails) p.wanted) k
  following-sized Broken p k = l

  next-sized : (x : Line) (r : Reading) → Sized r → Sized (next i x r)
  unfolding next
  next-sized x before s = opening-sized x
  next-sized x (past p) s = following-sized x p s
  next-sized x (down r) s = s

pub lines-sized : (i : ℕ) (ls : List (List ℕ)) (r : Reading) → i + length ls ≤ 65537 → Sized r → Sized (read_lines i ls r)
unfolding read_lines
lines-sized i [] r h s = s
lines-sized i (l ∷ ls) r h s = lines-sized (suc i) ls (next i (meaning l) r) (omega arith) (next-sized i (omega arith) (meaning l) r s)
