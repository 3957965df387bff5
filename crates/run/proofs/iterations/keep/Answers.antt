-- `run::iterations::keep` meets its contract: the two ways of the branch are its two cases. Assumes nothing.
use mathlib.Core.Path.{refl, sym, ◌∙◌}
use mathlib.Core.Bool.{true≢false}
use Rattle.run.proofs.iterations.keep.Goals as goal

pub forget-requires : goal.forget-requires
forget-requires c = c.requires

pub returns-then-halved : goal.returns-then-halved
returns-then-halved c =
    record {
      same = λ q. absurd (true≢false (sym c.if-halved.true ∙ q));
      forgotten = λ q. c.forget.ensures;
    }

pub returns-else-halved : goal.returns-else-halved
returns-else-halved c = record { same = λ q. refl; forgotten = λ q. absurd (true≢false (sym q ∙ c.if-halved.false)) }
