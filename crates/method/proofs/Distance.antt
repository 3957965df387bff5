-- The distance to a sink, capped at alpha, with a node's own length and without it: so the
-- potentials that weak duality asks for exist (docs/GUARANTEE.md, "The argument", steps 8 and 10).
-- Assumes nothing.
use mathlib.Core.Path.{◌≡◌, refl}
use mathlib.Core.Option.{some}
use mathlib.Core.List.{List, [], ◌∷◌}
use Prim.Native.Nat.{ℕ, ◌+◌, ◌-◌, ◌≤◌}
use native.Mathlib.Nat.{le_refl, le_antisymm}
use native.Mathlib.Omega.{arith}
use lib.ListN.{get_or}
use Rattle.network.specs.Network.{Network}
use Rattle.network.specs.Onward.{onward, node_length}
use Rattle.network.specs.Path.{Path, leads, follow, path_length}
use Rattle.network.specs.Resources.{uses}
use Rattle.network.specs.Ends.{Node, Ends}
use Rattle.network.proofs.Duality.{node_lengths}
use Rattle.network.proofs.Leads.{leads-from}
use Rattle.network.proofs.Paths.{path-cons}
use Rattle.network.proofs.Potential.{Potential}
use Rattle.network.proofs.Shortcuts.{shortcut, shortcut-few}
use Rattle.network.proofs.Uses.{onward-step, node_length-is, uses-length}
use Rattle.method.specs.Choice.{paths}
use Rattle.method.proofs.Capped.{capped, capped-cap, capped-member, capped-greatest}
use Rattle.method.proofs.Listed.{member-path, path-member}

-- min(alpha, the distance from v to t by the lengths l), v's own length included: the distance is the least length of the listed paths, and endless
-- where there is none.
pub on_entering : Network → List ℕ → ℕ → ℕ → ℕ → ℕ
on_entering net l alpha t v = capped alpha (λ p. path_length l (uses net v p)) (paths net v t)

-- The same without v's own length.
pub on_leaving : Network → List ℕ → ℕ → ℕ → ℕ → ℕ
on_leaving net l alpha t v = capped alpha (onward net l v) (paths net v t)

module _ (net : Network) (ends : Ends net) (l : List ℕ) (alpha t : ℕ) where
  -- No path is shorter, however many arcs it has.
  leaving-path : (v : ℕ) (p : List ℕ) → Node net v → Path net v t p → on_leaving net l alpha t v ≤ onward net l v p
  unfolding on_leaving
  leaving-path v p node path =
      let s = shortcut net v t p path in
      omega (
        arith,
        s.no_longer l,
        capped-member
            alpha
            (onward net l v)
            (paths net v t)
            (path-member net v t s.path (omega (arith, shortcut-few net v t ends node p s)) s.leads),
      )

  -- Where an arc leads, the capped distance falls by no more than the arc's length,
  along : (v e u : ℕ) → leads net v e ≡ some u → on_leaving net l alpha t v ≤ get_or l e 0 + on_entering net l alpha t u
  unfolding on_leaving on_entering
  along v e u h =
      omega (
        arith,
        capped-greatest
            alpha
            (λ p. path_length l (uses net u p))
            (on_leaving net l alpha t v - get_or l e 0)
            (paths net u t)
            (omega (arith, capped-cap alpha (onward net l v) (paths net v t)))
            (λ p m.
            let path = (member-path net u t p m).1 in
            omega (
              arith,
              leaving-path v (e ∷ p) (leads-from net v e u h ends) (path-cons net v u t e p h path),
              onward-step net l v e u p h,
              uses-length net l u t p path,
            )),
      )

  -- and through a node by no more than the node's.
  through : (v : ℕ) → on_entering net l alpha t v ≤ node_length net l v + on_leaving net l alpha t v
  unfolding on_leaving on_entering
  through v =
      omega (
        arith,
        capped-greatest
            alpha
            (onward net l v)
            (on_entering net l alpha t v - node_length net l v)
            (paths net v t)
            (omega (arith, capped-cap alpha (λ p. path_length l (uses net v p)) (paths net v t)))
            (λ p m.
            omega (
              arith,
              capped-member alpha (λ p. path_length l (uses net v p)) (paths net v t) m,
              uses-length net l v t p (member-path net v t p m).1,
            )),
      )

  -- Where every path from s to t is at least alpha long, these are potentials from s to t.
  pub distance-potential :
      (s : ℕ) → ((p : List ℕ) → Path net s t p → alpha ≤ path_length l (uses net s p)) →
      Potential net (λ e. get_or l e 0) (node_lengths net (λ e. get_or l e 0)) s t alpha (on_entering net l alpha t) (on_leaving net l alpha t)
  unfolding on_entering on_leaving follow onward
  distance-potential s far =
      record {
        top = le_antisymm
            (capped-cap alpha (λ p. path_length l (uses net s p)) (paths net s t))
            (capped-greatest alpha (λ p. path_length l (uses net s p)) alpha (paths net s t) (le_refl alpha) (λ p m. far p (member-path net s t p m).1));
        bottom = omega (arith, capped-member alpha (onward net l t) (paths net t t) (path-member net t t [] (omega arith) refl));
        through = λ v low high. omega (arith, through v, node_length-is net l v);
        along = along;
      }
