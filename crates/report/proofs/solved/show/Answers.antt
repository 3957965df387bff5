-- `report::solved::show` meets its contract: the work space is large enough for every accepted network. Assumes nothing.
use mathlib.Core.Path.{sym}
use Prim.Native.Nat.{ℕ, ◌≤◌}
use native.Mathlib.Omega.{arith}
use lib.IntN.{pos}
use lib.ListN.{length, replicate, length-replicate}
use lib.Seq.{length-take-le}
use Rattle.bounds.specs.Bounds.{most_arcs}
use Rattle.packed.specs.Packed.{table_numbers}
use Rattle.report.proofs.solved.show.Goals as goal
use Rattle.report.proofs.solved.show.Goals.{Start}

-- 256 amounts are enough for the arcs
room : (s : Start) → s.args.net.now.shape.arcs ≤ length (replicate most_arcs (pos 0))
room s = omega (arith, s.requires.lent.packed.few-arcs, length-replicate most_arcs (pos 0))

pub slice_bounds-show_in-end : goal.slice_bounds-show_in-end
slice_bounds-show_in-end c = sym (length-take-le _ _ (room (goal.at.slice_bounds-show_in-end c).Start))

pub show_in-requires : goal.show_in-requires
show_in-requires c =
    record { ready = c.requires; flows = length-take-le _ _ (room (goal.at.show_in-requires c).Start); places = omega (arith, length-replicate {A = ℕ} table_numbers 0) }
