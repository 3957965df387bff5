-- Where an arc leads: from its tail to its head, or back if it is reversible, and from nowhere else. All laws of paths rest on these.
-- Assumes nothing.
use mathlib.Core.Path.{◌≡◌, refl, sym, subst, ◌∙◌}
use mathlib.Core.Bool.{Bool, true, false, cond, true≢false}
use mathlib.Core.Option.{some, none-ne-some, some-injective}
use Prim.Native.Nat.{ℕ, ◌<◌}
use lib.Dec.{ltb, eqb}
use borrow.Author.Tests.{ltb-true, eqb-true, eqb-false, lt-ltb, eq-eqb}
use Rattle.network.specs.Ends.{Node, Ends}
use Rattle.network.specs.Network.{Network, arcs, tail, head, reversible}
use Rattle.network.specs.Path.{forward, beyond, leads}

-- Arc e taken from v to w: along it, or against it if it is reversible.
pub data Taken (net : Network) (v e w : ℕ) : Type 0 where
  along : tail net e ≡ v → head net e ≡ w → Taken net v e w
  against : reversible net e ≡ true → head net e ≡ v → tail net e ≡ w → Taken net v e w

module _ (net : Network) where
  module _ (v e w : ℕ) (h : leads net v e ≡ some w) where
    tests : (b c : Bool) → ltb e (arcs net) ≡ b → forward net v e ≡ c → e < arcs net × Taken net v e w
    unfolding leads
    tests false c p q = absurd (none-ne-some w (rw p at h))
    tests true true p q = (
      ltb-true e (arcs net) p,
      along (eqb-true (tail net e) v q) (some-injective _ _ (rw (p, q) at h)),
    )
    tests true false p q = (ltb-true e (arcs net) p, turned (reversible net e) (eqb (head net e) v) refl refl)
      where
        turned : (r t : Bool) → reversible net e ≡ r → eqb (head net e) v ≡ t → Taken net v e w
        turned true true a b = against a (eqb-true (head net e) v b) (some-injective _ _ (rw (p, q, a, b) at h))
        turned true false a b = absurd (none-ne-some w (rw (p, q, a, b) at h))
        turned false t a b = absurd (none-ne-some w (rw (p, q, a) at h))

    found : e < arcs net × Taken net v e w
    found = tests (ltb e (arcs net)) (forward net v e) refl refl

    pub leads-arc : e < arcs net
    leads-arc = found.0

    pub leads-taken : Taken net v e w
    leads-taken = found.1

    -- One stands at one end of the arc and gets to the other.
    ends : (b : Bool) → forward net v e ≡ b → Taken net v e w → (cond b (tail net e) (head net e) ≡ v) × (cond b (head net e) (tail net e) ≡ w)
    ends true q (along p r) = (p, r)
    ends true q (against m p r) = (eqb-true (tail net e) v q, p ∙ (sym (eqb-true (tail net e) v q) ∙ r))
    ends false q (along p r) = absurd (eqb-false (tail net e) v q p)
    ends false q (against m p r) = (p, r)

    pub leads-near : cond (forward net v e) (tail net e) (head net e) ≡ v
    leads-near = (ends (forward net v e) refl leads-taken).0

    pub leads-beyond : beyond net v e ≡ w
    leads-beyond = (ends (forward net v e) refl leads-taken).1

    -- An arc that is not reversible is taken along.
    pub leads-one-way : reversible net e ≡ false → (tail net e ≡ v) × (head net e ≡ w)
    leads-one-way one = by_way leads-taken
      where
        by_way : Taken net v e w → (tail net e ≡ v) × (head net e ≡ w)
        by_way (along p r) = (p, r)
        by_way (against m p r) = absurd (true≢false (sym m ∙ one))

    -- An arc leads from a node to a node.
    from : Ends net → Taken net v e w → Node net v × Node net w
    from ends (along p r) = (subst (Node net) p (ends.tails e leads-arc), subst (Node net) r (ends.heads e leads-arc))
    from ends (against m p r) = (subst (Node net) p (ends.heads e leads-arc), subst (Node net) r (ends.tails e leads-arc))

    pub leads-from : Ends net → Node net v
    leads-from ends = (from ends leads-taken).0

    pub leads-into : Ends net → Node net w
    leads-into ends = (from ends leads-taken).1

  -- And so it leads by either way.
  pub taken-leads : {v e w : ℕ} → e < arcs net → Taken net v e w → leads net v e ≡ some w
  unfolding leads
  taken-leads {v} {e} {w} l (along p r) = rw (lt-ltb e (arcs net) l, eq-eqb (tail net e) v p, r)
  taken-leads {v} {e} {w} l (against m p r) = by-test (forward net v e) refl
    where
      by-test : (b : Bool) → forward net v e ≡ b → leads net v e ≡ some w
      by-test true q =
          let z : head net e ≡ w = p ∙ (sym (eqb-true (tail net e) v q) ∙ r) in
          rw (lt-ltb e (arcs net) l, q, z)
      by-test false q = rw (lt-ltb e (arcs net) l, q, m, eq-eqb (head net e) v p, r)

  pub some-leads : (v e : ℕ) → e < arcs net → tail net e ≡ v → leads net v e ≡ some (head net e)
  some-leads v e l q = taken-leads l (along q refl)
