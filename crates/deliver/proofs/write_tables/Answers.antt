-- `deliver::write_tables` meets its contract: the work space is large enough for every accepted network. Assumes nothing.
use borrow.Author.Rules.{rules}
use mathlib.Core.Path.{sym, ap₂, ◌∙◌}
use Prim.Native.Nat.{◌*◌, ◌≤◌}
use native.Mathlib.Nat.{mul-le-mul}
use lib.IntN.{pos}
use lib.ListN.{replicate}
use lib.Seq.{length-take-le}
use Rattle.packed.proofs.Columns.{arcs-is, commodities-is}
use Rattle.deliver.proofs.write_tables.Goals as goal
use Rattle.deliver.proofs.write_tables.Goals.{Start}

-- 32 commodities on 256 arcs
few : (s : Start) → s.args.net.now.shape.commodities * s.args.net.now.shape.arcs ≤ 8192
few s = mul-le-mul s.requires.lent.packed.few-commodities s.requires.lent.packed.few-arcs

pub write_tables_in-requires-clause-solving : goal.write_tables_in-requires-clause-solving
write_tables_in-requires-clause-solving c =
    let p = c.requires.lent.packed in
    record {
      lent = c.requires.lent;
      flows =
          length-take-le _ (replicate 8192 (pos 0)) (few (goal.at.write_tables_in-requires-clause-solving c).Start) ∙
          sym (ap₂ ◌*◌ (commodities-is p) (arcs-is p));
      places = search rules;
    }
