-- The resources of a network: which numbers they have, what their capacities are, and sums over them.
-- Assumes nothing.
use mathlib.Core.Path.{◌≡◌, refl, sym, ap, ◌∙◌}
use mathlib.Core.Bool.{Bool, true, false, cond}
use mathlib.Core.Logic.{◌⊎◌, inl, inr, ⊎_elim}
use mathlib.Core.List.{[], ◌∷◌, ◌++◌, map}
use Prim.Native.Nat.{ℕ, zero, suc, ◌+◌, ◌≤◌, ◌<◌}
use native.Mathlib.Nat.{add-zero, le_refl, eq-or-lt_of_le, le_of_suc-le-suc}
use native.Mathlib.Numerals.{add-one}
use native.Mathlib.Omega.{arith}
use lib.ListN.{length, get_or, length-append, get_or-append}
use lib.Seq.{get_or-append_seam, get_or-append-add}
use Rattle.arith.specs.Lists.{up_to}
use Rattle.arith.specs.Sum.{sum}
use Rattle.arith.proofs.Order.{le-or-lt, Compared, below, equal, above, compare}
use Rattle.arith.proofs.Ranges.{get_or-map-up_to, length-map-up_to}
use Rattle.network.specs.Network.{Network, arcs, capacity, limit, limited}
use Rattle.network.specs.Resources.{limits_below, place, resources, resource_capacities, resource_capacity}

module _ (net : Network) where
  -- One node further.
  pub place-suc : (v : ℕ) → place net (suc v) ≡ place net v + cond (limited net v) 1 0
  unfolding place limits_below
  place-suc v = one_more (limited net v) _
    where
      one_more : (b : Bool) (x : ℕ) → arcs net + length (limits_below net v ++ cond b (x ∷ []) []) ≡ arcs net + length (limits_below net v) + cond b 1 0
      one_more true x = omega (arith, length-append (limits_below net v) (x ∷ []))
      one_more false x = omega (arith, length-append (limits_below net v) [])

  pub place-limited : (v : ℕ) → limited net v ≡ true → place net (suc v) ≡ place net v + 1
  place-limited v h = place-suc v ∙ ap (λ b. place net v + cond b 1 0) h

  -- The arcs come first, and later nodes later.
  pub place-low : (v : ℕ) → arcs net ≤ place net v
  unfolding place
  place-low v = omega arith

  pub place-le : (v w : ℕ) → v ≤ w → place net v ≤ place net w
  place-le v zero h = let z : v ≡ 0 = omega arith in rw z (le_refl (place net 0))
  place-le v (suc w) h =
      ⊎_elim
      (λ (q : v ≡ suc w). rw q (le_refl (place net (suc w))))
      (λ (l : v < suc w). omega (arith, place-le v w (le_of_suc-le-suc l), place-suc w))
      (eq-or-lt_of_le h)

  pub place-high : (v : ℕ) → v ≤ net.nodes → limited net v ≡ true → place net v < resources net
  unfolding resources
  place-high v b h = omega (arith, place-limited v h, place-le (suc v) (suc net.nodes) (omega arith))

  -- Two limited nodes are two resources.
  pub place-injective : (v w : ℕ) → limited net v ≡ true → limited net w ≡ true → place net v ≡ place net w → v ≡ w
  place-injective v w h k q = by_order (compare v w)
    where
      by_order : Compared v w → v ≡ w
      by_order (below l) = absurd (omega (arith, place-limited v h, place-le (suc v) w l))
      by_order (equal e) = e
      by_order (above l) = absurd (omega (arith, place-limited w k, place-le (suc w) v l))

  pub arcs-le : arcs net ≤ resources net
  unfolding resources
  arcs-le = place-low (suc net.nodes)

  -- A capacity for each resource:
  pub resource-capacities-length : length (resource_capacities net) ≡ resources net
  unfolding resource_capacities resources place
  resource-capacities-length =
      omega (
        arith,
        length-append (map (capacity net) (up_to (arcs net))) (limits_below net (suc net.nodes)),
        length-map-up_to (capacity net) (arcs net),
      )

  -- an arc's own,
  pub resource-capacity-arc : (e : ℕ) → e < arcs net → resource_capacity net e ≡ capacity net e
  unfolding resource_capacities
  resource-capacity-arc e l =
      get_or-append (map (capacity net) (up_to (arcs net))) (limits_below net (suc net.nodes)) 0 e
      (omega (arith, length-map-up_to (capacity net) (arcs net))) ∙
      get_or-map-up_to (capacity net) (arcs net) e l

  -- and a node's limit.
  fewer : (v w : ℕ) → limited net v ≡ true → v < w → length (limits_below net v) < length (limits_below net w)
  unfolding place
  fewer v w h b = omega (arith, place-limited v h, place-le (suc v) w b)

  limit-below : (w v : ℕ) → v < w → limited net v ≡ true → get_or (limits_below net w) (length (limits_below net v)) 0 ≡ limit net v
  unfolding limits_below
  limit-below zero v l h = absurd (omega arith)
  limit-below (suc w) v l h =
      ⊎_elim
      (λ (q : v ≡ w).
      rw (← q, h) (get_or-append_seam (limits_below net v) (limit net v) [] 0))
      (λ (b : v < w).
      get_or-append (limits_below net w) _ 0 (length (limits_below net v)) (fewer v w h b) ∙ limit-below w v b h)
      (eq-or-lt_of_le (le_of_suc-le-suc l))

  pub resource-capacity-node : (v : ℕ) → v ≤ net.nodes → limited net v ≡ true → resource_capacity net (place net v) ≡ limit net v
  unfolding resource_capacities place
  resource-capacity-node v b h =
      ap (λ n. get_or (resource_capacities net) (n + length (limits_below net v)) 0) (sym (length-map-up_to (capacity net) (arcs net))) ∙
      (get_or-append-add (map (capacity net) (up_to (arcs net))) (limits_below net (suc net.nodes)) (length (limits_below net v)) 0 ∙
      limit-below (suc net.nodes) v (omega arith) h)

  place_none : place net 0 ≡ arcs net
  unfolding place limits_below
  place_none = omega arith

  -- A resource is an arc or a limited node.
  abbrev NodeOf : ℕ → ℕ → Type 0
  NodeOf w r = (v : ℕ) × (v < w) × (limited net v ≡ true) × (place net v ≡ r)

  further : {w r : ℕ} → NodeOf w r → NodeOf (suc w) r
  further f = (f.0, omega (arith, f.1), f.2, f.3)

  node_of : (w r : ℕ) → arcs net ≤ r → r < place net w → NodeOf w r
  node_of zero r low high = absurd (omega (arith, place_none))
  node_of (suc w) r low high = by-test (limited net w) refl (node_of w r low)
    where
      by-test : (b : Bool) → limited net w ≡ b → (r < place net w → NodeOf w r) → NodeOf (suc w) r
      by-test true h rest =
          ⊎_elim
          (λ (l : place net w ≤ r). (w, le_refl (suc w), h, omega (arith, place-limited w h, high)))
          (λ (l : r < place net w). further (rest l))
          (le-or-lt (place net w) r)
      by-test false h rest = further (rest (omega (arith, high, place-suc w ∙ ap (λ b. place net w + cond b 1 0) h)))

  pub resource-cases : (r : ℕ) → r < resources net → r < arcs net ⊎ ((v : ℕ) × (v ≤ net.nodes) × (limited net v ≡ true) × (place net v ≡ r))
  unfolding resources
  resource-cases r h =
      ⊎_elim
      (λ (l : arcs net ≤ r). let f = node_of (suc net.nodes) r l h in inr (f.0, le_of_suc-le-suc f.1, f.2, f.3))
      (λ (l : r < arcs net). inl l)
      (le-or-lt (arcs net) r)

  -- A sum over the resources is one over the arcs and one over the nodes, of which only the limited ones count.
  sum-places : (g : ℕ → ℕ) (w : ℕ) → sum (place net w) g ≡ sum (arcs net) g + sum w (λ v. cond (limited net v) (g (place net v)) 0)
  unfolding sum
  sum-places g zero = ap (λ n. sum n g) place_none ∙ omega arith
  sum-places g (suc w) = by-test (limited net w) (place-suc w) (sum-places g w)
    where
      by-test : (b : Bool) → place net (suc w) ≡ place net w + cond b 1 0 →
          sum (place net w) g ≡ sum (arcs net) g + sum w (λ v. cond (limited net v) (g (place net v)) 0) →
          sum (place net (suc w)) g ≡ sum (arcs net) g + (sum w (λ v. cond (limited net v) (g (place net v)) 0) + cond b (g (place net w)) 0)
      by-test true q rest = ap (λ n. sum n g) (q ∙ add-one (place net w)) ∙ omega (arith, rest)
      by-test false q rest = ap (λ n. sum n g) (q ∙ add-zero (place net w)) ∙ omega (arith, rest)

  pub sum-resources : (g : ℕ → ℕ) →
      sum (resources net) g ≡ sum (arcs net) g + sum (suc net.nodes) (λ v. cond (limited net v) (g (place net v)) 0)
  unfolding resources
  sum-resources g = sum-places g (suc net.nodes)
