-- `decode::shape` meets its contract. Assumes nothing.
use mathlib.Core.Path.{◌≡◌, refl, ap₂, ◌∙◌}
use Prim.Native.Nat.{◌+◌, min}
use native.Mathlib.Omega.{arith}
use Rattle.network.proofs.Given.{given-most}
use Rattle.numbers.specs.Numbers.{count, column}
use Rattle.decode.proofs.Shapes.{counts}
use Rattle.decode.proofs.shape.Goals as goal
use Rattle.decode.proofs.shape.Goals.{After-min-c}

-- as many limits are read as there are nodes, or fewer where fewer are given
read : (c : After-min-c) → c.min-c.result ≡ min c.args.n (count c.args.floor.now.limits.now)
read c = omega (arith, c.min-c.ensures, c.count-all.ensures)

pub overflow_add-r : goal.overflow_add-r
overflow_add-r c =
    omega (
      arith,
      c.items-m.ensures,
      c.count_given.ensures,
      read (goal.at.overflow_add-r c).After-min-c,
      given-most (column c.args.floor.now.limits.now 1 0 c.min-c.result) c.min-c.result,
    )

pub returns : goal.returns
returns c =
    let given = read (goal.at.returns c).After-min-c in
    let args = c.args in
    record {
      nodes = refl;
      arcs = c.items-m.ensures;
      commodities = c.items-k.ensures;
      given = given;
      counted =
          ap₂ ◌+◌ c.items-m.ensures c.count_given.ensures ∙
          counts args.n args.floor.now.belts.now args.floor.now.pairs.now args.floor.now.limits.now c.min-c.result given;
    }
