-- Two arcs of capacity 1, both from node 1 to node 2, with one commodity and the amount 1 on each arc: the network of the worked bounds.
-- Assumes nothing.
use mathlib.Core.Path.{◌≡◌, refl, sym, ◌∙◌}
use mathlib.Core.Bool.{false, true≢false}
use mathlib.Core.List.{List, [], ◌∷◌}
use Prim.Native.Nat.{ℕ, zero, suc, ◌+◌, ◌≤◌, ◌<◌}
use native.Mathlib.Omega.{arith}
use lib.IntN.{ℤ, pos}
use lib.ListN.{get_or}
use Rattle.arith.specs.Sum.{sum}
use Rattle.signed.specs.Signed.{ahead, back}
use Rattle.network.specs.Network.{Network, limited}
use Rattle.network.specs.Flow.{Flow, Keeps, sizes_on}
use Rattle.network.specs.Ends.{Ends}

-- x for both arcs: their tails, heads, capacities or lengths
abbrev pub both : ℕ → List ℕ
both x = x ∷ x ∷ []

-- The commodity goes from s to t.
abbrev pub net : ℕ → ℕ → Network
net s t = record { nodes = 2; tails = both 1; heads = both 2; capacities = both 1; marks = both 0; limits = []; sources = s ∷ []; sinks = t ∷ [] }

-- 1 on each arc
unfoldable pub ones : ℕ → ℕ → ℤ
ones i e = pos 1

pub arc-at : (x e : ℕ) → e < 2 → get_or (both x) e 0 ≡ x
arc-at x zero b = refl
arc-at x (suc zero) b = refl
arc-at x (suc (suc e)) b = omega arith

commodity-at : (x i : ℕ) → i < 1 → get_or (x ∷ []) i 0 ≡ x
commodity-at x zero b = refl
commodity-at x (suc i) b = omega arith

module _ (s t : ℕ) where
  pub ends : 1 ≤ s → 1 ≤ t → s + t ≡ 3 → Ends (net s t)
  ends ls lt h =
      record {
        tails = λ e b. omega (arith, arc-at 1 e b);
        heads = λ e b. omega (arith, arc-at 2 e b);
        sources = λ i b. omega (arith, commodity-at s i b);
        sinks = λ i b. omega (arith, commodity-at t i b);
        apart = λ i b q. omega (arith, commodity-at s i b, commodity-at t i b);
      }

  pub flow : 1 ≤ s → 1 ≤ t → s + t ≡ 3 → Flow (net s t) ones
  unfolding ones back
  flow ls lt e = record { balance = λ i v b low high ns nt. omega (arith, commodity-at s i b, commodity-at t i b); one_way = λ i e b l c. refl }

  pub keeps : Keeps (net s t) 1 1 ones
  unfolding ones sizes_on sum ahead back
  keeps = record { within = λ e b. omega (arith, arc-at 1 e b); limits = λ v b h. absurd (true≢false (sym h ∙ none v)) }
    where
      none : (v : ℕ) → limited (net s t) v ≡ false
      none zero = refl
      none (suc v) = refl
