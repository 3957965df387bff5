-- The capacities of the resources, written one after the other: those of the arcs, then the limits.
-- Assumes nothing.
use mathlib.Core.Path.{◌≡◌, refl, sym, ap, ◌∙◌}
use mathlib.Core.List.{List, ◌++◌, map, append_assoc, append-nil}
use Prim.Native.Nat.{ℕ, suc, ◌+◌, ◌≤◌, ◌<◌}
use native.Mathlib.Numerals.{add-one}
use native.Mathlib.Omega.{arith}
use lib.ListN.{length, take, set}
use lib.Seq.{ext_get_or, take_all, take-suc-set}
use Rattle.arith.specs.Lists.{up_to}
use Rattle.arith.proofs.Ranges.{get_or-map-up_to, length-map-up_to}
use Rattle.network.specs.Network.{Network, arcs, capacity, limit}
use Rattle.network.specs.Resources.{limits_below, place, resources, resource_capacities}
use Rattle.network.proofs.Resources.{place-high}
use Rattle.index.proofs.Limits.{place-first, not-limited, is-limited, place-on, place-more}

-- The limits of the nodes below v are written, and next is the next place.
pub record Gathering (net : Network) (new : List ℕ) (next v : ℕ) : Type 0 where
  pub next-is : next ≡ place net v
  pub written : take next new ≡ map (capacity net) (up_to (arcs net)) ++ limits_below net v

-- The capacities of the arcs are a list.
capacities-are : (net : Network) → length net.capacities ≡ arcs net → net.capacities ≡ map (capacity net) (up_to (arcs net))
capacities-are net q =
    ext_get_or 0 net.capacities (map (capacity net) (up_to (arcs net))) (q ∙ sym (length-map-up_to (capacity net) (arcs net)))
    (λ i b. sym (get_or-map-up_to (capacity net) (arcs net) i (omega arith)))

module _ {net : Network} {new : List ℕ} where
  pub gathering-none :
      {m : ℕ} → m ≡ arcs net → length net.capacities ≡ arcs net → take m new ≡ net.capacities → Gathering net new m 0
  unfolding limits_below
  gathering-none m q copied =
      record {
        next-is = m ∙ sym (place-first net);
        written = copied ∙ (capacities-are net q ∙ sym (append-nil (map (capacity net) (up_to (arcs net)))));
      }

  module _ {next v : ℕ} (R : Gathering net new next v) where
    -- A node without a limit,
    pub gathering-on : limit net v ≡ 0 → Gathering net new next (v + 1)
    unfolding limits_below
    gathering-on z =
        record {
          next-is = R.next-is ∙ sym (place-on net v z);
          written = rw (add-one v, not-limited net v z, append-nil) R.written;
        }

    module _ (size : length new ≡ resources net) (node : v ≤ net.nodes) (some : limit net v ≡ 0 → ⊥) where
      pub gathering-place : next < length new
      gathering-place = omega (arith, R.next-is, size, place-high net v node (is-limited net v some))

      -- and one that has one.
      pub gathering-more : {x : ℕ} → x ≡ limit net v → Gathering net (set new next x) (next + 1) (v + 1)
      unfolding limits_below
      gathering-more {x} q =
          record {
            next-is = omega (arith, R.next-is, place-more net v some);
            written =
                rw (
                  add-one next,
                  take-suc-set new next x gathering-place,
                  R.written,
                  append_assoc,
                  q,
                  add-one v,
                  is-limited net v some,
                )
                refl;
          }

  pub gathering-all :
      {next v : ℕ} → Gathering net new next v → length new ≡ resources net → v ≡ net.nodes + 1 →
      new ≡ resource_capacities net
  unfolding resource_capacities resources
  gathering-all {next} {v} R size q =
      let e : v ≡ suc net.nodes = q ∙ add-one net.nodes in
      sym (take_all next new (omega (arith, size, R.next-is, ap (place net) e))) ∙
      (R.written ∙ ap (λ u. map (capacity net) (up_to (arcs net)) ++ limits_below net u) e)
