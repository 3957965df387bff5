-- `tables::draws::draw` meets its contract: each place of the path has an arc, and the least of their capacities is the
-- draw. Assumes nothing.
use Rattle.std.proofs.Common.{rules, arith, ◌<◌, length}
use Rattle.std.proofs.iter.runs.Made.{chains}
use Rattle.std.proofs.lemmas.Grind.{get_or_default_zero}
use Rattle.std.proofs.lemmas.Iterator.{YieldsList-from_slice}
use Rattle.std.proofs.lemmas.Iterator.Adapters.{serves_from_places}
use Rattle.tables.proofs.OnPath.{draw-least}
use Rattle.tables.proofs.draws.draw.Goals as goal

pub min-requires-clause-can : goal.min-requires-clause-can
min-requires-clause-can c =
    let path = c.args.path.now in (
      tt,
      serves_from_places (YieldsList-from_slice path (cc)) (λ x q k. search rules)
          (λ x k l e.
          let b : x.now < length c.args.capacities.now =
          omega (arith, e, get_or_default_zero path k x.now l, c.requires.1 k l) in
          search rules),
    )

pub returns : goal.returns
returns c = draw-least _ _ (λ k l. search (rules, chains)) (search (rules, chains))
