-- A path visits no node twice, or has a loop that can be cut out.
-- Assumes nothing.
use mathlib.Core.Path.{◌≡◌, refl, ap}
use mathlib.Core.Logic.{◌⊎◌, inl, inr}
use mathlib.Core.Option.{some}
use mathlib.Core.List.{List, [], ◌∷◌, ◌++◌}
use Prim.Native.Nat.{ℕ, ◌≤◌}
use native.Mathlib.Omega.{arith}
use lib.ListN.{length}
use Rattle.arith.specs.Distinct.{Distinct, empty, more}
use Rattle.arith.specs.Member.{Member, no_member}
use Rattle.arith.proofs.Members.{member-or-not}
use Rattle.network.specs.Network.{Network}
use Rattle.network.specs.Path.{leads, follow, Path}
use Rattle.network.specs.Visited.{visited}
use Rattle.network.proofs.Parts.{Parted, part}
use Rattle.network.proofs.Paths.{path-step, path-cons}

-- A path with a loop at some node: what comes before it, the loop, what comes after.
pub record Loop (net : Network) (v t : ℕ) (p : List ℕ) : Type 0 where
  pub front : List ℕ
  pub loop : List ℕ
  pub back : List ℕ
  pub whole : p ≡ front ++ (loop ++ back)
  pub real : 1 ≤ length loop
  pub at : ℕ
  pub comes : Path net v at front
  pub returns : Path net at at loop
  pub leaves : Path net at t back

module _ (net : Network) where
  -- a loop at the start, and one further on
  returning : (v w t e : ℕ) (p : List ℕ) → leads net v e ≡ some w → Parted net w t v p → Loop net v t (e ∷ p)
  unfolding follow
  returning v w t e p l r =
      record {
        front = [];
        loop = e ∷ r.front;
        back = r.back;
        whole = ap (λ (l : List ℕ). e ∷ l) r.whole;
        real = omega arith;
        at = v;
        comes = refl;
        returns = path-cons net v w v e r.front l r.arrives;
        leaves = r.leaves;
      }

  further : (v w t e : ℕ) (p : List ℕ) → leads net v e ≡ some w → Loop net w t p → Loop net v t (e ∷ p)
  further v w t e p l r =
      record {
        front = e ∷ r.front;
        loop = r.loop;
        back = r.back;
        whole = ap (λ (l : List ℕ). e ∷ l) r.whole;
        real = r.real;
        at = r.at;
        comes = path-cons net v w r.at e r.front l r.comes;
        returns = r.returns;
        leaves = r.leaves;
      }

  pub distinct-or-loop : (v t : ℕ) (p : List ℕ) → Path net v t p → Distinct (visited net v p) ⊎ Loop net v t p
  unfolding visited
  distinct-or-loop v t [] h = inl (more no_member empty)
  distinct-or-loop v t (e ∷ p) h =
      let s = path-step net v t e p h in
      at-start s.0 s.1 s.2 (distinct-or-loop s.0 t p s.2) (member-or-not v (visited net s.0 p))
    where
      at-start :
          (w : ℕ) → leads net v e ≡ some w → Path net w t p → Distinct (visited net w p) ⊎ Loop net w t p → Member v (visited net w p) ⊎
          (Member v (visited net w p) → ⊥) → Distinct (visited net v (e ∷ p)) ⊎ Loop net v t (e ∷ p)
      at-start w l k (inr r) m = inr (further v w t e p l r)
      at-start w l k (inl d) (inl m) = inr (returning v w t e p l (part net w t v p k m))
      at-start w l k (inl d) (inr n) = inl (rw l (more n d))
