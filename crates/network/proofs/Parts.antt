-- A path can be parted at every node that it visits.
-- Assumes nothing.
use mathlib.Core.Path.{◌≡◌, refl, sym, ap}
use mathlib.Core.Logic.{⊎_elim}
use mathlib.Core.Option.{Option, some}
use mathlib.Core.List.{List, [], ◌∷◌, ◌++◌}
use Prim.Native.Nat.{ℕ}
use Rattle.arith.specs.Member.{Member, first-or-later, only-member}
use Rattle.network.specs.Network.{Network}
use Rattle.network.specs.Path.{leads, follow, Path}
use Rattle.network.specs.Visited.{visited}
use Rattle.network.proofs.Paths.{path-step, path-cons}

-- A path parted at a node u that it visits.
pub record Parted (net : Network) (v t u : ℕ) (p : List ℕ) : Type 0 where
  pub front : List ℕ
  pub back : List ℕ
  pub whole : p ≡ front ++ back
  pub arrives : Path net v u front
  pub leaves : Path net u t back

module _ (net : Network) where
  -- parted at its start, and further on
  start : (v t u : ℕ) (p : List ℕ) → Path net v t p → u ≡ v → Parted net v t u p
  unfolding follow
  start v t u p h q = record { front = []; back = p; whole = refl; arrives = ap {B = Option ℕ} some (sym q); leaves = rw q h }

  onward : (v w t u e : ℕ) (p : List ℕ) → leads net v e ≡ some w → Parted net w t u p → Parted net v t u (e ∷ p)
  onward v w t u e p l r =
      record {
        front = e ∷ r.front;
        back = r.back;
        whole = ap (λ (l : List ℕ). e ∷ l) r.whole;
        arrives = path-cons net v w u e r.front l r.arrives;
        leaves = r.leaves;
      }

  pub part : (v t u : ℕ) (p : List ℕ) → Path net v t p → Member u (visited net v p) → Parted net v t u p
  unfolding visited follow
  part v t u [] h m = start v t u [] h (only-member m)
  part v t u (e ∷ p) h m =
      let s = path-step net v t e p h in
      ⊎_elim
      (λ (q : u ≡ v). start v t u (e ∷ p) h q)
      (λ (r : Member u (visited net s.0 p)). onward v s.0 t u e p s.1 (part s.0 t u p s.2 r))
      (first-or-later (rw s.1 at m))
