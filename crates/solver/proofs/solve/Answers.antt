-- `solver::solve` meets its contract: the work space is large enough for every accepted network. Assumes nothing.
use lib.Dec.{lit≤}
use Rattle.solver.proofs.solve.Goals as goal

pub solve_in-requires : goal.solve_in-requires
solve_in-requires c =
    let p = c.requires in
    record {
      lent = p.lent;
      flows = p.flows;
      tabled = p.places;
      memorised = lit≤ tt;
      indexes-of = lit≤ tt;
      path-of = lit≤ tt;
    }
