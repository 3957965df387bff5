-- `index::resource_capacities` meets its contract: the capacities come first, and the limits behind them.
-- Assumes nothing.
use mathlib.Core.Path.{◌≡◌, sym, ◌∙◌}
use Prim.Native.Nat.{◌≤◌}
use native.Mathlib.Omega.{arith}
use lib.ListN.{length, length-append, length-drop}
use lib.Seq.{length-take-le, take_at}
use Rattle.network.proofs.Resources.{arcs-le}
use Rattle.packed.specs.Packed.{net_in}
use Rattle.packed.proofs.Columns.{arcs-is, capacities-length}
use Rattle.index.proofs.resource_capacities.Goals as goal
use Rattle.index.proofs.resource_capacities.Goals.{Start}

-- the arcs are among the resources
room : (s : Start) → s.args.net.now.shape.arcs ≤ length s.args.table.now
room s =
    let p = s.requires in
    omega (arith, arcs-is p.packed, arcs-le (net_in s.args.net.now.shape s.args.net.now.numbers.now), p.whole, p.counted)

pub append_limits-requires : goal.append_limits-requires
unfolding net_in
append_limits-requires c =
    let p = c.requires in
    let copy = c.copy_from_slice in
    let fits = room (goal.at.append_limits-requires c).Start in
    let arcs : length copy.new.self ≡ c.args.net.now.shape.arcs = copy.ensures.len ∙ length-take-le _ _ fits in
    record {
      roomy =
          record {
            packed = p.packed;
            counted = p.counted;
            whole = simp (length-append, length-drop) (omega (arith, fits, p.whole));
          };
      capacities = take_at copy.new.self _ c.args.net.now.shape.arcs arcs ∙ copy.ensures.after;
    }

pub slice_bounds-copy_from_slice-end : goal.slice_bounds-copy_from_slice-end
slice_bounds-copy_from_slice-end c = room (goal.at.slice_bounds-copy_from_slice-end c).Start

pub slice_bounds-copy_from_slice-end-2 : goal.slice_bounds-copy_from_slice-end-2
slice_bounds-copy_from_slice-end-2 c =
    sym (length-take-le _ _ (room (goal.at.slice_bounds-copy_from_slice-end-2 c).Start))

pub copy_from_slice-requires : goal.copy_from_slice-requires
unfolding net_in
copy_from_slice-requires c =
    let p = c.requires.packed in
    length-take-le _ _ (room (goal.at.copy_from_slice-requires c).Start) ∙ sym (capacities-length p ∙ arcs-is p)
