-- `records::sizes::shape` meets its contract: as many limits are read as there are nodes, or fewer where fewer are given. Assumes nothing.
use mathlib.Core.Path.{◌≡◌, refl}
use native.Mathlib.Omega.{arith}
use Rattle.network.proofs.Given.{given-most}
use Rattle.records.specs.Parts.{limits_read}
use Rattle.records.proofs.sizes.shape.Goals as goal
use Rattle.records.proofs.sizes.shape.Goals.{After-min-c}

read : (c : After-min-c) → c.min-c.result ≡ limits_read c.args.n c.args.limits.now
read c = omega (arith, c.min-c.ensures)

pub count_given-requires : goal.count_given-requires
count_given-requires c = omega (arith, read (goal.at.count_given-requires c).After-min-c)

pub overflow_add-r : goal.overflow_add-r
overflow_add-r c =
    omega (arith, c.requires, c.count_given.ensures, read (goal.at.overflow_add-r c).After-min-c, given-most c.args.limits.now c.min-c.result)

pub returns : goal.returns
returns c = rw (c.count_given.ensures, read (goal.at.returns c).After-min-c) refl
