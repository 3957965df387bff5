-- The two ways in which a site's call ends: its list is refused, or all its floors are sent. Assumes nothing.
use mathlib.Core.Path.{◌≡◌, refl, sym, ap, ◌∙◌}
use Prim.Native.Nat.{ℕ}
use Rattle.network.specs.Refusal.{host_number, Accepted, Refused}
use Rattle.network.specs.Verdict.{verdict, afterwards}
use Rattle.network.specs.declared.Refusal.{Refusal}
use Rattle.network.proofs.Decided.{no-refusal}
use Rattle.network.proofs.HostNumber.{zero-accepted}
use Rattle.call.specs.Host.{Slices}
use Rattle.site.specs.Site.{Site, networks, list_conditions, Sited}
use Rattle.site.specs.Turns.{FloorsServed}

module _ (t : Site) (old : Slices) where
  pub site-refused :
      (r : ℕ) (w : Refusal) → verdict (list_conditions t.floors old.answer) ≡ Refused w → r ≡ host_number (verdict (list_conditions t.floors old.answer)) →
      Sited t old old r
  unfolding afterwards
  site-refused r w e h = record { returned = rw e (h ∙ ap host_number e); left = rw e refl; guarantee = λ a. absurd (no-refusal (sym a ∙ e)) }

  pub site-accepted : (new : Slices) → verdict (list_conditions t.floors old.answer) ≡ Accepted → FloorsServed t (networks t) old new → Sited t old new 0
  unfolding afterwards
  site-accepted new e f = record { returned = rw e refl; left = rw e f.left; guarantee = λ a. f.guarantee }

  -- A call that returned 0 was not refused.
  pub site-answered : {new : Slices} {r : ℕ} → Sited t old new r → r ≡ 0 → verdict (list_conditions t.floors old.answer) ≡ Accepted
  site-answered s e = zero-accepted (verdict (list_conditions t.floors old.answer)) (sym s.returned ∙ e)
