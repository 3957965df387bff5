-- Which nodes are limited, and which resources they are: the nodes in turn.
-- Assumes nothing.
use mathlib.Core.Path.{◌≡◌, ap, ◌∙◌}
use mathlib.Core.Bool.{Bool, true, false, cond, not}
use Prim.Native.Nat.{ℕ, zero, suc, ◌+◌, ◌≤◌}
use native.Mathlib.Nat.{add-zero}
use native.Mathlib.Numerals.{add-one}
use native.Mathlib.Omega.{arith}
use borrow.Author.Tests.{ne_eqb, eq-eqb}
use Rattle.network.specs.Network.{Network, arcs, limit, limited}
use Rattle.network.specs.Resources.{limits_below, place, resources}
use Rattle.network.proofs.Resources.{place-suc}
use Rattle.index.specs.Index.{resource_of}

one-most : (b : Bool) → cond b 1 0 ≤ 1
one-most true = omega arith
one-most false = omega arith

module _ (net : Network) where
  pub place-first : place net 0 ≡ arcs net
  unfolding place limits_below
  place-first = omega arith

  -- Each node, limited or not, adds at most one.
  pub place-most : (v : ℕ) → place net v ≤ arcs net + v
  place-most zero = omega (arith, place-first)
  place-most (suc v) = omega (arith, place-suc net v, one-most (limited net v), place-most v)

  module _ (v : ℕ) where
    -- A node without a limit is no resource,
    module _ (none : limit net v ≡ 0) where
      pub not-limited : limited net v ≡ false
      not-limited = ap not (eq-eqb (limit net v) 0 none)

      pub place-on : place net (v + 1) ≡ place net v
      place-on = rw (add-one v) (place-suc net v ∙ (ap (λ b. place net v + cond b 1 0) not-limited ∙ add-zero (place net v)))

      pub resource-none : resource_of net v ≡ resources net
      unfolding resource_of
      resource-none = rw not-limited

    -- and one with a limit is the next.
    module _ (some : limit net v ≡ 0 → ⊥) where
      pub is-limited : limited net v ≡ true
      is-limited = ap not (ne_eqb (limit net v) 0 some)

      pub place-more : place net (v + 1) ≡ place net v + 1
      place-more = rw (add-one v) (place-suc net v ∙ ap (λ b. place net v + cond b 1 0) is-limited)

      pub resource-is : resource_of net v ≡ place net v
      unfolding resource_of
      resource-is = rw is-limited
