-- `dimacs::reader::begin` meets its contract, for each kind of line.
-- Assumes nothing.
use mathlib.Core.Path.{◌≡◌, refl, sym, ap, ◌∙◌}
use Prim.Native.Nat.{ℕ}
use native.Mathlib.Omega.{arith}
use Rattle.network.proofs.Bounds.{within}
use Rattle.network.specs.declared.Refusal.TheVariants.{Layout}
use Rattle.lines.specs.declared.Line.{Line}
use Rattle.lines.specs.declared.Line.TheVariants.{Comment, Problem, Source, Sink, Arc, Broken}
use Rattle.dimacs.specs.Progress.{begun}
use Rattle.dimacs.specs.Reading.{down, opening}
use Rattle.dimacs.proofs.Stages.{nodes-outside, arcs-outside, opened}
use Rattle.dimacs.proofs.reader.begin.Goals as goal

no_opening : (i : ℕ) (l : Line) → (l ≡ Comment → ⊥) → ((n m : ℕ) → l ≡ Problem n m → ⊥) → opening i l ≡ down (Layout i)
unfolding opening
no_opening i Comment h k = absurd (h refl)
no_opening i (Problem n m) h k = absurd (k n m refl)
no_opening i (Source v) h k = refl
no_opening i (Sink v) h k = refl
no_opening i (Arc u v c) h k = refl
no_opening i Broken h k = refl

pub returns-then-outside : goal.returns-then-outside
returns-then-outside c = λ ts hs cs h. ap (opening _) c.in-Problem.is ∙ nodes-outside _ _ _ (sym c.outside.ensures ∙ c.if-outside.true)

pub returns-then-outside-2 : goal.returns-then-outside-2
returns-then-outside-2 c = λ ts hs cs h.
    ap (opening _) c.in-Problem.is ∙
    arcs-outside _ _ _ (sym c.outside.ensures ∙ c.if-outside.false) (sym c.outside-in-Problem.ensures ∙ c.if-outside-2.true)

pub returns-in-Comment : goal.returns-in-Comment
unfolding opening
returns-in-Comment c = λ ts hs cs h. record { reading = ap (opening _) (sym c.in-Comment.is); held = h }

pub returns-else-outside-2 : goal.returns-else-outside-2
unfolding begun
returns-else-outside-2 c = λ ts hs cs h.
    let few = sym c.outside-in-Problem.ensures ∙ c.if-outside-2.false in
    record {
      reading =
          sym
          (ap (opening _) c.in-Problem.is ∙
          opened _ _ _ (sym c.outside.ensures ∙ c.if-outside.false) few);
      held =
          record { room = (omega arith, (within _ _ _ few).most); tails = h.tails; heads = h.heads; capacities = h.capacities };
    }

pub returns-in_default : goal.returns-in_default
returns-in_default c = λ ts hs cs h. no_opening _ _ c.in_default.not-Comment (λ n m e. c.in_default.not-Problem n m e)
