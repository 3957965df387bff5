-- What the bound is: of all iterations the least D over alpha, and the first iteration that met it.
-- Document 01, "One choice of route".
use Rattle.std.specs.Prelude.{◌≡◌, List, ℕ, suc, ◌*◌, ◌≤◌, ◌<◌}
use Rattle.std.proofs.Math.Option.{none, some}
use Rattle.network.specs.Network.{Network}
use Rattle.network.specs.Path.{path_length}
use Rattle.method.specs.Answer.{Outcome}
use Rattle.method.specs.Choice.{used_by, choice}
use Rattle.method.specs.Iteration.{weight}
use Rattle.method.specs.Run.{nth}

-- alpha by the lengths l: the length of the choice by them.
unfoldable pub alpha_of : Network → List ℕ → ℕ
alpha_of net l = elim (choice net l) [ none ↦ 0 | some c ↦ path_length l (used_by net c) ]

-- The lengths before iteration j + 1.
abbrev pub lengths_at : Network → ℕ → ℕ → List ℕ
lengths_at net q j = (nth net q j).lengths

pub record Tightest (net : Network) (q : ℕ) (o : Outcome) : Type 0 where
  -- The answer names iteration `prior` + 1, one of those that it counts.
  pub prior : ℕ
  pub best : o.answer.best ≡ suc prior
  pub made : prior < o.answer.count
  -- Lengths, D and alpha are those of the state before it.
  pub lengths : o.lengths ≡ lengths_at net q prior
  pub bound : o.answer.bound ≡ weight net (lengths_at net q prior)
  pub alpha : o.answer.alpha ≡ alpha_of net (lengths_at net q prior)
  -- No iteration met a smaller fraction, and every earlier one a greater.
  pub least :
      (j : ℕ) → j < o.answer.count →
      o.answer.bound * alpha_of net (lengths_at net q j) ≤ weight net (lengths_at net q j) * o.answer.alpha
  pub first :
      (j : ℕ) → j < prior →
      o.answer.bound * alpha_of net (lengths_at net q j) < weight net (lengths_at net q j) * o.answer.alpha
