-- The lines of a file one after the other. Document 01, "File and listing" and "Turned down".
use Rattle.std.specs.Prelude.{cond, List, [], ◌∷◌, ℕ, suc, ltb, length, Option, Some, None}
use Rattle.bounds.specs.Bounds.{least_nodes, most_nodes, most_arcs}
use Rattle.network.specs.Verdict.{outside}
use Rattle.network.specs.declared.Refusal.{Refusal}
use Rattle.network.specs.declared.Refusal.TheVariants.{Nodes, Arcs, Layout}
use Rattle.lines.specs.Meaning.{meaning}
use Rattle.lines.specs.declared.Line.{Line}
use Rattle.lines.specs.declared.Line.TheVariants.{Comment, Problem, Source, Sink, Arc, Broken}
use Rattle.dimacs.specs.Progress.{Progress, begun, with_source, with_sink, with_arc}

-- How far the reading is: before the p line, past it, or turned down.
pub data Reading : Type 0 where
  before : Reading
  past : Progress → Reading
  down : Refusal → Reading

-- Line i before the p line. "9 before 1 or 2 on its p line": a faulty p line is Broken; of the two counts n comes first.
unfoldable pub opening : ℕ → Line → Reading
opening i Comment = before
opening i (Problem n m) = cond (outside least_nodes most_nodes n) (down Nodes) (cond (outside 1 most_arcs m) (down Arcs) (past (begun n m)))
opening i (Source v) = down (Layout i)
opening i (Sink v) = down (Layout i)
opening i (Arc u v c) = down (Layout i)
opening i Broken = down (Layout i)

-- "One s and one t": where there was one already, line i breaks the layout.
unfoldable pub once : ℕ → Option ℕ → Progress → Reading
once i None p = past p
once i (Some w) p = down (Layout i)

-- Line i past the p line: no second p line, n and a lines in any order, and no more a lines than "exactly m".
unfoldable pub following : ℕ → Line → Progress → Reading
following i Comment p = past p
following i (Problem n m) p = down (Layout i)
following i (Source v) p = once i p.source (with_source v p)
following i (Sink v) p = once i p.sink (with_sink v p)
following i (Arc u v c) p = cond (ltb (length p.tails) p.wanted) (past (with_arc u v c p)) (down (Layout i))
following i Broken p = down (Layout i)

-- Line i, whatever came before it. Once turned down, a file stays so.
unfoldable pub next : ℕ → Line → Reading → Reading
next i l before = opening i l
next i l (past p) = following i l p
next i l (down r) = down r

-- The lines in turn, numbered from i.
unfoldable pub read_lines : ℕ → List (List ℕ) → Reading → Reading
read_lines i [] r = r
read_lines i (l ∷ ls) r = read_lines (suc i) ls (next i (meaning l) r)
