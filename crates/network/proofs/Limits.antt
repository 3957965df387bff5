-- Nodes past the last limit that is given have none, so a search of the limits may end there.
-- Assumes nothing.
use mathlib.Core.Path.{◌≡◌, refl, sym, ap, ◌∙◌}
use mathlib.Core.Bool.{cond}
use mathlib.Core.List.{List, [], ◌∷◌, ◌++◌}
use Prim.Native.Nat.{ℕ, zero, suc, ◌+◌, ◌-◌, ◌≤◌}
use native.Mathlib.Nat.{le_refl}
use native.Mathlib.Omega.{arith}
use lib.Dec.{ltb}
use lib.ListN.{length, get_or-eq_default}
use borrow.Author.Tests.{le-ltb}
use Rattle.arith.specs.Lists.{up_from, up_to, flat}
use Rattle.bounds.specs.Bounds.{most_capacity}
use Rattle.network.specs.Network.{Network, limit}
use Rattle.network.specs.Verdict.{Condition, verdict, limit_conditions}
use Rattle.network.specs.Refusal.{Accepted, Refused}
use Rattle.network.proofs.First.{first-accepts, passes, none_left}

-- Conditions after the same ones decide alike if they do so alone.
after : (xs ys zs : List Condition) → verdict ys ≡ verdict zs → verdict (xs ++ ys) ≡ verdict (xs ++ zs)
unfolding verdict
after [] ys zs h = h
after (x ∷ xs) ys zs h = ap (λ v. cond x.holds (Refused x.refusal) v) (after xs ys zs h)

module _ (f : ℕ → List Condition) where
  -- k more items that refuse nothing
  none_more : (i k : ℕ) → ((e : ℕ) → i ≤ e → Accepted ≡ verdict (f e)) → Accepted ≡ verdict (flat f (up_from i k))
  unfolding flat up_from
  none_more i zero h = none_left
  none_more i (suc k) h = none_more (suc i) k (λ e l. h e (omega arith)) ∙ sym (first-accepts (f i) (flat f (up_from (suc i) k)) (sym (h i (le_refl i))))

  more-items : (i j k : ℕ) → ((e : ℕ) → i + j ≤ e → Accepted ≡ verdict (f e)) → verdict (flat f (up_from i j)) ≡ verdict (flat f (up_from i (j + k)))
  unfolding flat up_from
  more-items i zero k h =
      let c : zero + k ≡ k = omega arith in
      rw c (sym none_left ∙ none_more i k (λ e l. h e (omega arith)))
  more-items i (suc j) k h =
      let c : suc j + k ≡ suc (j + k) = omega arith in
      rw c (after (f i) _ _ (more-items (suc i) j k (λ e l. h e (omega arith))))

module _ (net : Network) where
  not-given : (v : ℕ) → length net.limits ≤ v → Accepted ≡ verdict (limit_conditions net v)
  unfolding limit_conditions
  not-given v l =
      let z : limit net (suc v) ≡ 0 = get_or-eq_default net.limits 0 l in
      passes {t = ltb most_capacity (limit net (suc v))} _ _ refl (le-ltb most_capacity (limit net (suc v)) (omega (arith, z))) none_left

  pub limits-given : (n : ℕ) → length net.limits ≤ n → verdict (flat (limit_conditions net) (up_to (length net.limits))) ≡ verdict (flat (limit_conditions net) (up_to n))
  unfolding up_to
  limits-given n l =
      let c : length net.limits + (n - length net.limits) ≡ n = omega arith in
      more-items (limit_conditions net) 0 (length net.limits) (n - length net.limits) (λ e l. not-given e (omega arith)) ∙
      ap (λ c. verdict (flat (limit_conditions net) (up_from 0 c))) c
