-- What leaves a node by the bytes, as one sum over the arcs. Assumes nothing.
use mathlib.Core.Path.{◌≡◌, refl, sym, ◌∙◌}
use mathlib.Core.Bool.{cond}
use mathlib.Core.List.{List, []}
use Prim.Native.Nat.{ℕ, suc, ◌+◌, ◌*◌, ◌≤◌, ◌<◌}
use native.Mathlib.Numerals.{add-one}
use native.Mathlib.Omega.{arith}
use lib.Dec.{eqb}
use Rattle.arith.specs.Sum.{sum}
use Rattle.arith.proofs.Sums.{sum-cong, sum-add, sum-part}
use Rattle.signed.specs.Signed.{ahead, back}
use Rattle.network.specs.Flow.{passing, outflow}
use Rattle.numbers.specs.Numbers.{items, number_at}
use Rattle.decode.proofs.Items.{arcs-in, tail-in, head_in}
use Rattle.whole.specs.Read.{amounts_in, leaves_in}

module _ (belts flow : List ℕ) (from v : ℕ) where
  -- over arc e: forward from its tail, or back from its head
  abbrev pub over : ℕ → ℕ
  over e =
      cond (eqb (number_at belts (4 * e)) v) (ahead (amounts_in flow from e)) 0 + cond (eqb (number_at belts (4 * e + 1)) v) (back (amounts_in flow from e)) 0

  pub leaves-sum : leaves_in belts flow from v ≡ sum (items 4 belts) over
  unfolding outflow passing
  leaves-sum =
      rw (arcs-in 0 belts [] [])
      (sym (sum-add (items 4 belts) _ _) ∙ sum-cong (items 4 belts) _ over (λ e l. rw (tail-in 0 belts [] [] e l, head_in 0 belts [] [] e l) refl))

  -- The first arcs' sum, and one more, are no more than all.
  pub one_more : (e : ℕ) → e < items 4 belts → sum e over + over e ≤ leaves_in belts flow from v
  unfolding sum
  one_more e l = omega (arith, leaves-sum, sum-part (suc e) (items 4 belts) over l)

  pub sum-next : (e : ℕ) → sum (e + 1) over ≡ sum e over + over e
  unfolding sum
  sum-next e = rw add-one refl
