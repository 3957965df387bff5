-- `records::sizes::check_shape` meets its contract: the sizes come before the tables. Assumes nothing.
use mathlib.Core.Path.{sym, ◌∙◌}
use Rattle.network.proofs.Decided.{accepted-quiet}
use Rattle.network.proofs.First.{refused-handed, accepted-first}
use Rattle.network.proofs.Sizes.{sizes-kept}
use Rattle.records.proofs.sizes.check_shape.Goals as goal

pub returns-in_err-check_sizes : goal.returns-in_err-check_sizes
returns-in_err-check_sizes c = refused-handed _ _ c.check_sizes.ensures c.in_err-check_sizes.was c.from_residual.ensures.1

pub check_tables-requires : goal.check_tables-requires
check_tables-requires c =
    let k = sizes-kept _ _ _ _ _ (accepted-quiet _ (sym c.check_sizes.ensures ∙ c.in_ok-check_sizes.was)) in
    (k.of-commodities.most, k.of-arcs.most)

pub returns : goal.returns
returns c = accepted-first _ _ c.check_sizes.ensures c.in_ok-check_sizes.was c.check_tables.ensures
