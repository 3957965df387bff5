-- `records::sizes::check_call` meets its contract: its shape is checked. Assumes nothing.
use mathlib.Core.Path.{ap, ◌∙◌}
use mathlib.Core.List.{◌++◌}
use Rattle.network.specs.Verdict.{verdict, size_conditions}
use Rattle.packed.specs.declared.Shape.{Shape}
use Rattle.records.specs.Records.{record_conditions}
use Rattle.records.proofs.sizes.check_call.Goals as goal

pub returns : goal.returns
returns c =
    let a = c.args in
    c.check_shape.ensures ∙
    ap (λ (s : Shape). verdict (size_conditions s.nodes s.arcs s.resources s.commodities a.q ++ record_conditions s.commodities s.arcs s.resources a.flow a.lengths))
    c.shape.ensures
