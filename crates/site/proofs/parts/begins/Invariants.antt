-- `site::parts::begins` meets its contract. The loop's invariant: the part of floor f begins at `from`.
-- Assumes nothing.
use mathlib.Core.Path.{◌≡◌}
use Rattle.site.specs.Parts.{begins}
use Rattle.site.proofs.parts.begins.Given as goal

abbrev pub invariant-loop-f : goal.invariant-loop-f
invariant-loop-f l = l.from ≡ begins l.floors l.j l.room l.f
