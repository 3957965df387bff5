-- `records::judge::put_pairs` meets its contract: both columns take their numbers, and those of the arcs stay. Assumes nothing.
use mathlib.Core.Path.{◌∙◌}
use native.Mathlib.Omega.{arith}
use Rattle.packed.proofs.Columns.{part_length}
use Rattle.records.proofs.Paired.{sinks-column, paired-length, paired}
use Rattle.records.proofs.judge.put_pairs.Goals as goal

pub halve-requires : goal.halve-requires
halve-requires c =
    record {
      each = part_length 768 c.args.s.commodities c.args.net.now (omega (arith, c.requires.packed.few-commodities, c.requires.packed.places)) ∙ c.requires.each;
      two = omega arith;
    }

pub halve-requires-2 : goal.halve-requires-2
halve-requires-2 c =
    record {
      each = sinks-column c.requires c.halve.ensures;
      two = omega arith;
    }

pub shape_of-net : goal.shape_of-net
shape_of-net c =
    paired-length c.requires c.halve.ensures c.halve-2.ensures

pub returns : goal.returns
returns c =
    paired c.requires c.halve.ensures c.halve-2.ensures
