-- `records::judge::put_limits` meets its contract: the limits that are read stand in their column. Assumes nothing.
use mathlib.Core.Path.{sym, ◌∙◌}
use Rattle.packed.specs.Packed.{limits_from}
use Rattle.packed.proofs.Columns.{part_length}
use Rattle.records.proofs.Completed.{limits-room, limits-many, put-limits-length, limited}
use Rattle.records.proofs.judge.put_limits.Goals as goal

pub slice_bounds-copy_from_slice-end-2 : goal.slice_bounds-copy_from_slice-end-2
slice_bounds-copy_from_slice-end-2 c = sym (limits-many c.requires)

pub copy_from_slice-requires : goal.copy_from_slice-requires
copy_from_slice-requires c =
    part_length limits_from c.args.s.limits c.args.net.now (limits-room c.requires) ∙ sym (limits-many c.requires)

pub shape_of-net : goal.shape_of-net
shape_of-net c =
    put-limits-length c.requires c.copy_from_slice.ensures.after

pub returns : goal.returns
returns c =
    limited c.requires c.copy_from_slice.ensures.after
