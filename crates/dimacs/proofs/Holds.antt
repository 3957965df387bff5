-- The sizes of what a file comes to: of a network its counts, of a refusal its place.
-- Assumes nothing.
use mathlib.Core.Path.{◌≡◌, refl}
use mathlib.Core.Bool.{Bool, true, false, cond}
use mathlib.Core.List.{List}
use Rattle.std.specs.Prelude.{Option, Some, None}
use Prim.Native.Nat.{ℕ, ◌≤◌}
use native.Mathlib.Omega.{arith}
use lib.Dec.{ltb, eqb}
use lib.ListN.{length}
use borrow.Author.Tests.{ltb-false, eqb-true}
use Rattle.network.specs.Network.{Network}
use Rattle.network.specs.Refusal.{refusal_code}
use Rattle.network.specs.declared.Refusal.{Refusal}
use Rattle.network.specs.declared.Refusal.TheVariants.{Layout, LongFile}
use Rattle.lines.specs.Pieces.{line_feed, lines_of}
use Rattle.lines.proofs.Pieces.{few-pieces}
use Rattle.dimacs.specs.File.{File, holds, refused, network_read, complete, closing, parsed}
use Rattle.dimacs.specs.OneCommodity.{OneCommodity}
use Rattle.dimacs.specs.Progress.{Progress}
use Rattle.dimacs.specs.Reading.{Reading, before, past, down, read_lines}
use Rattle.dimacs.proofs.Sized.{Kept, Sized, lines-sized}

abbrev Bounded : File → Type 0
Bounded (holds net) = OneCommodity net
Bounded (refused r) = (refusal_code r).place ≤ 65536

module _ (p : Progress) (k : Kept p) where
  full : (a b : ℕ) (t : Bool) → eqb (length p.tails) p.wanted ≡ t → Bounded (cond t (holds (network_read p a b)) (refused (Layout 0)))
  unfolding network_read
  full a b false e = omega arith
  full a b true e =
      record {
        of-nodes = k.nodes;
        of-arcs = rw (eqb-true (length p.tails) p.wanted e) k.wanted;
        of-heads = k.heads;
        of-capacities = k.capacities;
        of-marks = refl;
        of-limits = refl;
        of-sources = refl;
        of-sinks = refl;
      }

  complete-bounded : (a b : Option ℕ) → Bounded (complete p a b)
  unfolding complete
  complete-bounded None b = omega arith
  complete-bounded (Some a) None = omega arith
  complete-bounded (Some a) (Some b) = full a b (eqb (length p.tails) p.wanted) refl

closing-bounded : (r : Reading) → Sized r → Bounded (closing r)
unfolding closing
closing-bounded before s = omega arith
closing-bounded (past p) s = complete-bounded p s p.source p.sink
closing-bounded (down r) s = s

parsed-bounded : (text : List ℕ) → Bounded (parsed text)
unfolding parsed lines_of
parsed-bounded text = by (ltb 65536 (length text)) refl
  where
    by : (t : Bool) → ltb 65536 (length text) ≡ t → Bounded (cond t (refused LongFile) (closing (read_lines 1 (lines_of text) before)))
    by true e = omega arith
    by false e =
        closing-bounded (read_lines 1 (lines_of text) before)
        (lines-sized 1 (lines_of text) before (omega (arith, few-pieces line_feed text, ltb-false)) tt)

module _ (text : List ℕ) where
  pub network-sizes : {net : Network} → parsed text ≡ holds net → OneCommodity net
  network-sizes e = rw e at (parsed-bounded text)

  pub refusal-place : {r : Refusal} → parsed text ≡ refused r → (refusal_code r).place ≤ 65536
  refusal-place e = rw e at (parsed-bounded text)
