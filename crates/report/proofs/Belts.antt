-- The rows of the arcs: one more behind the others, and the load of an arc where there is one commodity. Assumes nothing.
use mathlib.Core.Path.{◌≡◌, refl, ap, ◌∙◌}
use mathlib.Core.List.{List, [], ◌∷◌, ◌++◌, append-nil, append_assoc}
use Prim.Native.Nat.{ℕ, zero, suc, ◌+◌}
use native.Mathlib.Nat.{zero-add, zero-mul, add-zero, add-suc, suc-add}
use lib.IntN.{ℤ, pos}
use lib.ListN.{get_or}
use Rattle.arith.specs.Lists.{up_from, up_to, flat}
use Rattle.arith.specs.Sum.{sum}
use Rattle.signed.specs.Signed.{size}
use Rattle.network.specs.Flow.{sizes_on}
use Rattle.network.specs.Network.{Network, arcs, commodities}
use Rattle.method.specs.Answer.{Outcome, amounts}
use Rattle.report.specs.Listing.{belt_row}
use Rattle.report.specs.Shown.{belt_of, belts_of}

module _ {A B : Type 0} where
  flat_append : (f : A → List B) (xs ys : List A) → flat f (xs ++ ys) ≡ flat f xs ++ flat f ys
  unfolding flat
  flat_append f [] ys = refl
  flat_append f (x ∷ xs) ys = rw (flat_append f xs ys, append_assoc)

  flat-same : (f g : A → List B) → ((x : A) → f x ≡ g x) → (xs : List A) → flat f xs ≡ flat g xs
  unfolding flat
  flat-same f g h [] = refl
  flat-same f g h (x ∷ xs) = rw (h x, flat-same f g h xs)

up_from-last : (i n : ℕ) → up_from i (suc n) ≡ up_from i n ++ ((i + n) ∷ [])
unfolding up_from
up_from-last i zero = rw add-zero refl
up_from-last i (suc n) = rw (up_from-last (suc i) n, add-suc, suc-add)

-- The rows of one more arc.
pub flat-more : (f : ℕ → List ℕ) (n : ℕ) → flat f (up_to (suc n)) ≡ flat f (up_to n) ++ f n
unfolding up_to flat
flat-more f n = rw (up_from-last 0 n, flat_append, zero-add, append-nil)

-- With one commodity the loads are the sizes of its amounts.
pub one-sizes : (net : Network) → commodities net ≡ 1 → (t : List ℤ) (e : ℕ) → sizes_on net (amounts net t) e ≡ size (get_or t e (pos 0))
unfolding sizes_on amounts sum
one-sizes net h t e = rw (h, zero-mul) (zero-add (size (get_or t (0 + e) (pos 0))) ∙ ap (λ j. size (get_or t j (pos 0))) (zero-add e))

pub same_rows :
    (net : Network) → commodities net ≡ 1 → (o : Outcome) →
    flat (belt_row net o) (up_to (arcs net)) ≡ belts_of net.tails net.heads o.flow o.answer.capacity o.answer.load
unfolding belt_row
same_rows net h o =
    flat-same (belt_row net o) (belt_of net.tails net.heads o.flow o.answer.capacity o.answer.load)
    (λ e. rw (one-sizes net h o.flow e) refl) (up_to (arcs net))
