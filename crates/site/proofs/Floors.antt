-- The floors in turn: none of them, and one more. Assumes nothing.
use mathlib.Core.Path.{◌≡◌, refl, ap, subst, ◌∙◌}
use Prim.Native.Nat.{ℕ, ◌+◌, ◌<◌}
use native.Mathlib.Decide.{dec_lt}
use native.Mathlib.Numerals.{add-one}
use native.Mathlib.Omega.{arith}
use Rattle.call.specs.Host.{Slices}
use Rattle.site.specs.Site.{Site, floor_sent, sent}
use Rattle.site.specs.Turns.{Guaranteed, FloorServed, FloorsServed}

pub none_yet : (t : Site) (s : Slices) → FloorsServed t 0 s s
unfolding sent
none_yet t s = record { left = refl; guarantee = λ i h. absurd (omega arith) }

module _ {t : Site} {i : ℕ} {old mid new : Slices} (f : FloorsServed t i old mid) (o : FloorServed t i mid new) where
  guaranteed : (j : ℕ) → j < i + 1 → Guaranteed t j (sent t old j)
  guaranteed j h = elim (dec_lt j i) [
    | yes b ↦ f.guarantee j b
    | no b ↦ let e : j ≡ i = omega arith in rw e (subst (Guaranteed t i) f.left o.guarantee)
  ]

  pub one_more : FloorsServed t (i + 1) old new
  unfolding sent
  one_more = record { left = rw add-one (o.left ∙ ap (floor_sent t i) f.left); guarantee = guaranteed }
