-- A draw pushed along a path, arc by arc: what is still to be done, and how large the amounts become.
-- Assumes nothing.
use mathlib.Core.Path.{◌≡◌, refl, sym, ap, ◌∙◌}
use mathlib.Core.Bool.{Bool, true, false}
use mathlib.Core.List.{List, [], ◌∷◌}
use Prim.Native.Nat.{ℕ, zero, suc, ◌+◌, ◌*◌, ◌≤◌, ◌<◌}
use native.Mathlib.Nat.{le_of_suc-le-suc, not-suc-le-zero}
use native.Mathlib.Numerals.{add-one}
use native.Mathlib.Omega.{arith}
use borrow.Author.Tests.{eqb-true, eqb-false}
use lib.Dec.{eqb}
use lib.IntN.{ℤ, pos}
use lib.ListN.{length, get_or, set, drop, drop_of_length-le}
use lib.Seq.{get_or-set_same, get_or-set_other}
use Rattle.signed.specs.Signed.{size, moved}
use Rattle.signed.proofs.Signed.{moved-size}
use Rattle.network.specs.Network.{Network}
use Rattle.network.specs.Path.{forward, beyond}
use Rattle.method.specs.Iteration.{crossed, pushed}

drop-next : (p : List ℕ) (j : ℕ) → j < length p → drop j p ≡ get_or p j 0 ∷ drop (suc j) p
drop-next [] j l = absurd (not-suc-le-zero l)
drop-next (e ∷ p) zero l = refl
drop-next (e ∷ p) (suc j) l = drop-next p j (le_of_suc-le-suc l)

-- The flow ys on the way from xs, drawn over the first j arcs of the path p from u, to node v.
pub record Underway (net : Network) (base g u : ℕ) (p : List ℕ) (xs : List ℤ) (v j : ℕ) (ys : List ℤ) : Type 0 where
  pub rest : pushed net base g v (drop j p) ys ≡ pushed net base g u p xs
  pub sizes : (k : ℕ) → k < length xs → size (get_or ys k (pos 0)) ≤ size (get_or xs k (pos 0)) + j * g

module _ (net : Network) (base g : ℕ) where
  -- One arc raises no amount's size by more than the draw.
  cross-most : (v e : ℕ) (xs : List ℤ) (k : ℕ) → k < length xs → size (get_or (crossed net base g v e xs) k (pos 0)) ≤ size (get_or xs k (pos 0)) + g
  cross-most v e xs k l = by_place (eqb k (base + e)) refl
    where
      x : ℤ
      x = moved (forward net v e) g (get_or xs (base + e) (pos 0))

      by_place : (b : Bool) → eqb k (base + e) ≡ b → size (get_or (set xs (base + e) x) k (pos 0)) ≤ size (get_or xs k (pos 0)) + g
      by_place true q =
          let same : k ≡ base + e = eqb-true k (base + e) q in
          rw same (rw (get_or-set_same xs (base + e) x (pos 0) (rw (← same) l)) (moved-size (forward net v e) g (get_or xs (base + e) (pos 0))))
      by_place false q =
          omega (arith, ap (λ y. size y) (get_or-set_other xs (base + e) k x (pos 0) (eqb-false k (base + e) q)))

  -- The next arc has its turn.
  pub push-more :
      {u v j w : ℕ} {p : List ℕ} {xs ys zs : List ℤ} →
      Underway net base g u p xs v j ys → length ys ≡ length xs → j < length p →
      zs ≡ crossed net base g v (get_or p j 0) ys → w ≡ beyond net v (get_or p j 0) → Underway net base g u p xs w (j + 1) zs
  unfolding pushed
  push-more {u} {v} {j} {w} {p} {xs} {ys} {zs} U long l e f =
      rw (e, f)
      (record {
        rest = rw add-one (sym (ap (λ r. pushed net base g v r ys) (drop-next p j l)) ∙ U.rest);
        sizes = λ k b. omega (arith, cross-most v (get_or p j 0) ys k (omega (arith, long)), U.sizes k b);
      })

-- All arcs have had their turn.
pub push-all :
    {net : Network} {base g u v j base' u' : ℕ} {p : List ℕ} {xs ys : List ℤ} → Underway net base g u p xs v j ys → length p ≤ j → base ≡ base' →
    u ≡ u' → ys ≡ pushed net base' g u' p xs
unfolding pushed
push-all {net} {base} {g} {u} {v} {j} {base'} {u'} {p} {xs} {ys} U l q r =
    rw (← q, ← r) (sym (ap (λ (r : List ℕ). pushed net base g v r ys) (drop_of_length-le p {i = j} l)) ∙ U.rest)
