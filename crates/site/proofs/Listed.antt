-- A list that is neither 13 nor 5, and the number of one that is. Assumes nothing.
use mathlib.Core.Path.{◌≡◌, refl}
use mathlib.Core.Bool.{true, false}
use mathlib.Core.List.{List, [], ◌∷◌}
use Prim.Native.Nat.{ℕ, ◌*◌, ◌≤◌, ◌<◌, ◌^◌}
use native.Mathlib.Omega.{arith}
use lib.Dec.{ltb}
use borrow.Author.Tests.{ltb-false}
use Rattle.bounds.specs.Sites.{most_networks, floor_numbers}
use Rattle.network.specs.Refusal.{refusal_code, host_number, Accepted}
use Rattle.network.specs.Verdict.{Condition, verdict, outside}
use Rattle.network.proofs.Bounds.{within}
use Rattle.network.proofs.Decided.{Quiet, accepted-quiet, refusal-has}
use Rattle.network.proofs.Each.{Each, none, more}
use Rattle.network.proofs.HostNumber.{verdict-fits}
use Rattle.numbers.specs.Numbers.{count, items}
use Rattle.site.specs.Site.{list_conditions}
use Rattle.site.specs.Turns.{Listed}

passed : (floors answers : List ℕ) → Quiet (list_conditions floors answers) →
    (outside 1 most_networks (items floor_numbers floors) ≡ false) × (ltb (count answers) (8 * items floor_numbers floors) ≡ false)
unfolding list_conditions
passed floors answers (more a (more b none)) = (cc, cc)

pub listed : (floors answers : List ℕ) → verdict (list_conditions floors answers) ≡ Accepted → Listed floors answers
listed floors answers h =
    let p = passed floors answers (accepted-quiet _ h) in
    record { few = (within 1 most_networks (items floor_numbers floors) p.0).most; room = ltb-false _ _ p.1 }

both-placeless :
    (x y : Condition) → (refusal_code x.refusal).place ≡ 0 → (refusal_code y.refusal).place ≡ 0 →
    Each (λ c. c.holds ≡ true → (refusal_code c.refusal).place ≤ 65536) (x ∷ y ∷ [])
both-placeless x y p q = more {x = x} (λ t. omega (arith, p)) (more {x = y} (λ t. omega (arith, q)) none)

placeless : (floors answers : List ℕ) → Each (λ c. c.holds ≡ true → (refusal_code c.refusal).place ≤ 65536) (list_conditions floors answers)
unfolding list_conditions
placeless floors answers = both-placeless _ _ refl refl

pub list-fits : (floors answers : List ℕ) → host_number (verdict (list_conditions floors answers)) < 2 ^ 64
list-fits floors answers =
    verdict-fits (verdict (list_conditions floors answers)) (λ w h. refusal-has (λ w. (refusal_code w).place ≤ 65536) w (placeless floors answers) h)
