-- A search through items in turn, each with its rows: from item e on it finds what the rows of e decide, else what the search from the next item finds.
-- Assumes nothing.
use mathlib.Core.Path.{◌≡◌, sym, ◌∙◌}
use mathlib.Core.List.{List, ◌++◌}
use Prim.Native.Nat.{ℕ, suc, ◌+◌, ◌-◌, ◌≤◌, ◌<◌}
use native.Mathlib.Numerals.{add-one}
use native.Mathlib.Omega.{arith}
use Rattle.arith.specs.Lists.{up_from, up_to, flat}
use Rattle.network.specs.Verdict.{Condition, verdict}
use Rattle.network.specs.declared.Refusal.{Refusal}
use Rattle.network.specs.Refusal.{Verdict, Accepted, Refused}
use Rattle.network.proofs.First.{first-refuses, first-accepts, none_left}

-- what the rows of items e, e + 1, .., m - 1 decide
abbrev pub found : (ℕ → List Condition) → ℕ → ℕ → Verdict
found conditions e m = verdict (flat conditions (up_from e (m - e)))

module _ (conditions : ℕ → List Condition) (m : ℕ) where
  pub search-all : found conditions 0 m ≡ verdict (flat conditions (up_to m))
  unfolding up_to
  search-all = let e : m - 0 ≡ m = omega arith in rw e

  pub search-ends : (e : ℕ) → m ≤ e → Accepted ≡ found conditions e m
  unfolding up_from flat
  search-ends e h = let z : m - e ≡ 0 = omega arith in rw z none_left

  -- the rows of item e come first
  apart : (e : ℕ) → e < m → found conditions e m ≡ verdict (conditions e ++ flat conditions (up_from (suc e) (m - suc e)))
  unfolding up_from flat
  apart e h = let z : m - e ≡ suc (m - suc e) = omega arith in rw z

  pub search-stops : (e : ℕ) {r : Refusal} → e < m → Refused r ≡ verdict (conditions e) → Refused r ≡ found conditions e m
  search-stops e {r} h w = sym (apart e h ∙ first-refuses (conditions e) _ r (sym w))

  pub search-goes-on : (e : ℕ) → e < m → Accepted ≡ verdict (conditions e) → found conditions (e + 1) m ≡ found conditions e m
  search-goes-on e h w = rw add-one (sym (apart e h ∙ first-accepts (conditions e) _ (sym w)))
