-- `deliver::write_tables_in` meets its contract: each table takes its part of the outcome. Assumes nothing.
use mathlib.Core.Path.{◌≡◌, ap, ap₂, ◌∙◌}
use mathlib.Core.List.{List, map}
use Prim.Native.Nat.{◌*◌}
use native.Mathlib.Omega.{arith}
use lib.IntN.{ℤ}
use lib.ListN.{length}
use Rattle.std.proofs.lemmas.List.{map-id}
use Rattle.signed.specs.Signed.{twos}
use Rattle.numbers.specs.Numbers.{written}
use Rattle.packed.proofs.Columns.{arcs-is, commodities-is}
use Rattle.deliver.proofs.write_tables_in.Goals as goal
use Rattle.deliver.proofs.write_tables_in.Goals.{After-solve-a}

-- the outcome's table of flow is of the shape's size
flow-size : (c : After-solve-a) → length c.solve-a.new.flow ≡ c.args.net.now.shape.commodities * c.args.net.now.shape.arcs
flow-size c =
    let p = c.requires.solving in
    c.solve-a.auto.flow ∙ (p.flows ∙ ap₂ ◌*◌ (commodities-is p.lent.packed) (arcs-is p.lent.packed))

pub write_all-requires : goal.write_all-requires
write_all-requires c = omega (arith, flow-size (goal.at.write_all-requires c).After-solve-a, c.requires.room.for-flow)

pub returns : goal.returns
returns c =
    let r = c.solve-a.ensures in
    record {
      answers = r.answers;
      flows = c.write_all.ensures ∙ ap (λ (xs : List ℤ). written c.args.flow.now (map twos xs)) r.flows;
      bests = c.write_all-2.ensures ∙ ap (written c.args.lengths.now) (map-id _ ∙ r.lengths);
      guarantee = r.guarantee;
    }
