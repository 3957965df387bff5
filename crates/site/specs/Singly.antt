-- What holds of a site's call beside its contract: to each floor it is that floor's own call, and nothing else. No contract rests on it.
use Rattle.std.specs.Prelude.{◌≡◌, false, List, ℕ, suc, ◌*◌, ◌<◌, drop}
use Rattle.numbers.specs.Numbers.{count, number_at}
use Rattle.call.specs.Deliver.{slices}
use Rattle.call.specs.Host.{Slices, Hosted}
use Rattle.site.specs.Parts.{told, begins, own}
use Rattle.site.specs.Site.{Site, networks, lent_to}

-- Floor i's parts of the slices at the start or the end of the site's call, and the counts at the start or the end of its own.
abbrev pub own_in : Site → ℕ → Slices → List ℕ → Slices
own_in t i s counts = lent_to t i (slices s.flow s.lengths s.answer counts)

-- Each floor's parts before and after the site's call are related as the contract of its own call says, with all that this promises of an accepted
-- floor; what that returned stands first of its eight. Only the counts go from one floor to the next, and bytes behind the last part are kept.
pub record Singly (t : Site) (old new : Slices) : Type 0 where
  pub counts : ℕ → List ℕ
  pub first : counts 0 ≡ old.counts
  pub last : counts (networks t) ≡ new.counts
  pub each :
      (i : ℕ) → i < networks t →
      Hosted false (told t.floors i 0) (told t.floors i 1) t.office (own t.floors 2 i t.belts) (own t.floors 3 i t.pairs) (own t.floors 4 i t.limits)
      (own_in t i old (counts i)) (own_in t i new (counts (suc i))) (number_at new.answer (8 * i))
  pub flow-behind : let n = begins t.floors 5 (count old.flow) (networks t) in drop (8 * n) new.flow ≡ drop (8 * n) old.flow
  pub lengths-behind : let n = begins t.floors 6 (count old.lengths) (networks t) in drop (8 * n) new.lengths ≡ drop (8 * n) old.lengths
  pub answers-behind : drop (64 * networks t) new.answer ≡ drop (64 * networks t) old.answer
