-- What a host reads back from the table of totes of an accepted call are the outcome's numbers, none of them cut, and what these come to.
-- Assumes nothing.
use mathlib.Core.Path.{◌≡◌, ap, subst, ◌∙◌}
use mathlib.Core.List.{List, [], ◌∷◌}
use Prim.Native.Nat.{ℕ, zero, suc, ◌+◌, ◌*◌, ◌/◌, ◌%◌, ◌≤◌, ◌<◌, ◌^◌}
use native.Mathlib.Nat.{lt_of_le_of_lt, div-add-mod', div-le_self, mod-le, mod-lt}
use native.Mathlib.Omega.{arith}
use lib.Dec.{lit≤}
use lib.ListN.{get_or}
use Rattle.network.specs.Network.{Network, commodities}
use Rattle.network.specs.Refusal.{Accepted}
use Rattle.numbers.specs.Numbers.{number_at}
use Rattle.numbers.proofs.Tables.{number_at-written}
use Rattle.decode.specs.Decode.{network_in}
use Rattle.method.specs.Answer.{Outcome, amounts, outcome}
use Rattle.call.specs.Host.{Slices, verdict_in}
use Rattle.call.proofs.ReadBack.{taken-up, accepted}
use Rattle.whole.specs.Rounded.{Rounded}
use Rattle.whole.specs.Whole.{carried, lacks, totes_of, Whole}
use Rattle.whole.proofs.Parted.{parted-length, parted-at}
use Rattle.whole.proofs.Rounding.{scaled_fits, rounded}

-- Neither part of a quotient is more than what was divided.
two-most : (x y j : ℕ) → j < 2 → get_or (x / y ∷ x % y ∷ []) j 0 ≤ x
two-most x y zero l = div-le_self x y
two-most x y (suc zero) l = mod-le x y
two-most x y (suc (suc j)) l = absurd (omega arith)

module _ {n q office : ℕ} {belts pairs limits : List ℕ} {old new : Slices} {totes totes' : List ℕ} {r : ℕ} (w : Whole n q office belts pairs limits old new totes totes' r)
    (a : verdict_in (lacks (network_in n belts pairs limits) totes) (network_in n belts pairs limits) q office old ≡ Accepted) where
  abbrev net : Network
  net = network_in n belts pairs limits

  abbrev o : Outcome
  o = outcome net q

  abbrev amount : ℕ → ℕ
  amount = carried net (amounts net o.flow)

  -- number j, of two, of commodity i: at most its scaled amount, so not cut
  of_pair : (i j : ℕ) → i < commodities net → j < 2 → get_or (totes_of net o) (2 * i + j) 0 < 2 ^ 64
  of_pair i j l b =
      rw (parted-at o.answer.capacity o.answer.load amount (commodities net) i j l b)
      (lt_of_le_of_lt (two-most (amount i * o.answer.capacity) o.answer.load j b) (scaled_fits net q o (w.hosted.guarantee a) i l))

  pub totes-read : (j : ℕ) → j < 2 * commodities net → number_at totes' j ≡ get_or (totes_of net o) j 0
  totes-read j l =
      let parts : 2 * (j / 2) + j % 2 ≡ j = omega (arith, div-add-mod' j 2) in
      let fits = subst (λ p. get_or (totes_of net o) p 0 < 2 ^ 64) parts (of_pair (j / 2) (j % 2) (omega (arith, parts)) (mod-lt j (lit≤ tt))) in
      ap (λ s. number_at s j) (w.table ∙ taken-up a _ _) ∙
      number_at-written _ (totes_of net o) j (omega (arith, parted-length o.answer.capacity o.answer.load amount (commodities net))) fits

  pub is-rounded : Rounded net o
  is-rounded = rounded net q o (w.hosted.guarantee a) (accepted (lacks net totes) net q office old a).0.counts.of-commodities.least
