-- `lines::kinds::lettered` meets its contract: the first byte decides.
-- Assumes nothing.
use mathlib.Core.Path.{refl, ◌∙◌}
use native.Mathlib.Omega.{arith}
use borrow.Author.Tests.{ne_eqb}
use Rattle.lines.specs.Meaning.{lettered}
use Rattle.lines.proofs.Meant.{first_byte, no_byte}
use Rattle.lines.proofs.kinds.lettered.Goals as goal

pub returns-in_err-first : goal.returns-in_err-first
returns-in_err-first c = rw c.from_residual.ensures (no_byte _ c.in_err-first.ensures.value)

pub returns-in-99 : goal.returns-in-99
unfolding lettered
returns-in-99 c = rw (first_byte c.args.line.now c.in_ok-first.ensures.value c.in-99.is)

pub returns-in-112 : goal.returns-in-112
unfolding lettered
returns-in-112 c = c.problem.ensures ∙ rw (first_byte c.args.line.now c.in_ok-first.ensures.value c.in-112.is)

pub returns-in-110 : goal.returns-in-110
unfolding lettered
returns-in-110 c = c.terminal.ensures ∙ rw (first_byte c.args.line.now c.in_ok-first.ensures.value c.in-110.is)

pub returns-in-97 : goal.returns-in-97
unfolding lettered
returns-in-97 c = c.arc.ensures ∙ rw (first_byte c.args.line.now c.in_ok-first.ensures.value c.in-97.is)

pub returns-in_default : goal.returns-in_default
unfolding lettered
returns-in_default c =
    rw (
      first_byte c.args.line.now c.in_ok-first.ensures.value refl,
      ne_eqb c.in_ok-first.field-0.now 99 (λ e. omega arith),
      ne_eqb c.in_ok-first.field-0.now 112 (λ e. omega arith),
      ne_eqb c.in_ok-first.field-0.now 110 (λ e. omega arith),
      ne_eqb c.in_ok-first.field-0.now 97 (λ e. omega arith),
    )
