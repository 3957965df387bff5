-- What a verdict says of its conditions: it accepts exactly where none holds, and refuses exactly with the first that holds.
-- Assumes nothing.
use mathlib.Core.Path.{◌≡◌, refl, ap, ◌∙◌}
use mathlib.Core.Bool.{Bool, true, false, cond}
use mathlib.Core.List.{List, [], ◌∷◌, ◌++◌}
use Prim.Native.Nat.{ℕ}
use native.Mathlib.Omega.{arith}
use Rattle.network.specs.Verdict.{Condition, when, verdict}
use Rattle.network.specs.declared.Refusal.{Refusal}
use Rattle.network.specs.Refusal.{Verdict, Accepted, Refused}
use Rattle.network.proofs.Each.{Each, none, more}
use Rattle.network.proofs.First.{first-accepts}

-- No condition holds.
abbrev pub Quiet : List Condition → Type 0
Quiet rs = Each (λ r. r.holds ≡ false) rs

-- The refusal w is that of a condition that holds, and no earlier one does.
pub record Decides (rs : List Condition) (w : Refusal) : Type 0 where
  pub earlier : List Condition
  pub later : List Condition
  pub split : rs ≡ earlier ++ (when true w ∷ later)
  pub quiet : Quiet earlier

-- Accepting is no refusal.
pub no-refusal : {w : Refusal} → Accepted ≡ Refused w → ⊥
no-refusal h = let z : ◌≡◌ {A = ℕ} 0 1 = cc in omega arith

passed : (b : Bool) (u : Refusal) {v : Verdict} → cond b (Refused u) v ≡ Accepted → (b ≡ false) × (v ≡ Accepted)
passed true u h = (cc, cc)
passed false u h = (refl, h)

pub accepted-quiet : (rs : List Condition) → verdict rs ≡ Accepted → Quiet rs
unfolding verdict
accepted-quiet [] h = none
accepted-quiet (r ∷ rs) h = let p = passed r.holds r.refusal h in more p.0 (accepted-quiet rs p.1)

pub quiet-accepted : {rs : List Condition} → Quiet rs → verdict rs ≡ Accepted
unfolding verdict
quiet-accepted none = refl
quiet-accepted (more e q) = rw e (quiet-accepted q)

decided : (b : Bool) (u w : Refusal) (rs : List Condition) → (verdict rs ≡ Refused w → Decides rs w) → cond b (Refused u) (verdict rs) ≡ Refused w → Decides (when b u ∷ rs) w
decided true u w rs k h =
    let e : u ≡ w = cc in
    record { earlier = []; later = rs; split = ap (λ x. when true x ∷ rs) e; quiet = none }
decided false u w rs k h =
    let d = k h in
    record { earlier = when false u ∷ d.earlier; later = d.later; split = ap (λ l. when false u ∷ l) d.split; quiet = more refl d.quiet }

pub refused-decides : (rs : List Condition) (w : Refusal) → verdict rs ≡ Refused w → Decides rs w
unfolding verdict
refused-decides [] w h = elim (no-refusal h) [ ]
refused-decides (r ∷ rs) w h = decided r.holds r.refusal w rs (refused-decides rs w) h

pub decides-refused : {rs : List Condition} {w : Refusal} → Decides rs w → verdict rs ≡ Refused w
unfolding verdict
decides-refused d = ap verdict d.split ∙ first-accepts d.earlier _ (quiet-accepted d.quiet)

has : (P : Refusal → Type 0) (b : Bool) (u w : Refusal) {v : Verdict} → (b ≡ true → P u) → (v ≡ Refused w → P w) → cond b (Refused u) v ≡ Refused w → P w
has P true u w p k h = let e : u ≡ w = cc in rw (← e) (p refl)
has P false u w p k h = k h

-- A refusal has every property that each condition gives its own refusal where it holds.
pub refusal-has : (P : Refusal → Type 0) {rs : List Condition} (w : Refusal) → Each (λ r. r.holds ≡ true → P r.refusal) rs → verdict rs ≡ Refused w → P w
unfolding verdict
refusal-has P w none h = elim (no-refusal h) [ ]
refusal-has P w (more {x = r} p ps) h = has P r.holds r.refusal w p (refusal-has P w ps) h
