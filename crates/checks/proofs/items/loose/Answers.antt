-- `checks::items::loose` meets its contract: its "or" of three tests is the definition's.
-- Assumes nothing.
use mathlib.Core.Path.{◌≡◌, sym, ◌∙◌}
use mathlib.Core.Bool.{◌||◌}
use Rattle.network.specs.Verdict.{outside, loose}
use Rattle.network.proofs.Or.{or-stop, or-on}
use Rattle.checks.proofs.items.loose.Goals as goal
use Rattle.checks.proofs.items.loose.Goals.{Joined-outside, then-outside, else-outside}

-- the first two tests, where their ways meet
ends : (c : Joined-outside) →
    c.if-outside.value ≡ outside 1 c.args.n c.args.a || outside 1 c.args.n c.args.b
ends c =
    elim c.if-outside.branch [
      | then-outside w ↦ or-stop _ c.outside.ensures w.if-outside.true w.value-is
      | else-outside w ↦ or-on c.outside.ensures w.if-outside.false (w.value-is ∙ w.outside-else-outside.ensures)
    ]

pub returns-then-outside-2 : goal.returns-then-outside-2
unfolding loose
returns-then-outside-2 c = simp (sym (ends (goal.at.returns-then-outside-2 c).Joined-outside), c.if-outside-2.true)

pub returns-else-outside-2 : goal.returns-else-outside-2
unfolding loose
returns-else-outside-2 c = simp (sym (ends (goal.at.returns-else-outside-2 c).Joined-outside), c.if-outside-2.false)
