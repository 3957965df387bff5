-- What the call reads out of the bytes that an accepted call has left is the outcome's. Assumes nothing.
use mathlib.Core.Path.{◌≡◌, refl, sym, ap, ap₂, ◌∙◌}
use mathlib.Core.List.{List, []}
use Prim.Native.Nat.{ℕ, ◌+◌, ◌*◌, ◌≤◌, ◌<◌}
use native.Mathlib.Omega.{arith}
use lib.Dec.{lit≤}
use lib.IntN.{ℤ}
use Rattle.bounds.specs.Bounds.{answer_numbers}
use Rattle.signed.specs.FromTwos.{from_twos}
use Rattle.network.specs.Flow.{outflow}
use Rattle.network.specs.Network.{Network, arcs, commodities}
use Rattle.network.specs.Refusal.{Verdict, Accepted}
use Rattle.numbers.specs.Numbers.{count, items, number_at}
use Rattle.decode.specs.Decode.{network_in}
use Rattle.decode.proofs.Items.{arcs-in, commodities-in, source_in}
use Rattle.method.specs.Answer.{amounts, numbers_of, outcome}
use Rattle.method.proofs.Drawn.{out-same}
use Rattle.call.specs.Host.{Slices, Served}
use Rattle.call.proofs.ReadBack.{amount-read, answer-read}
use Rattle.whole.specs.Read.{amounts_in, sent_in, Readable}
use Rattle.whole.specs.Whole.{carried, parted, totes_of}
use Rattle.whole.proofs.Parted.{parted-cong}
use Rattle.whole.proofs.Rounding.{amount-leaves, amount-fits, scaled_fits}

-- What leaves a node does not ask for more than the belts.
leaves-alike : (n : ℕ) (belts pairs limits : List ℕ) (f : ℕ → ℤ) (v : ℕ) → outflow (network_in 0 belts [] []) f v ≡ outflow (network_in n belts pairs limits) f v
unfolding network_in outflow
leaves-alike n belts pairs limits f v = refl

module _ (n : ℕ) (belts pairs limits : List ℕ) {q office r : ℕ} {v : Verdict} {old new : Slices} (h : Served (network_in n belts pairs limits) q office v old new r)
    (a : v ≡ Accepted) where
  abbrev net : Network
  net = network_in n belts pairs limits

  -- What leaves the source of commodity i, read out, is its amount.
  pub sent-read : (i : ℕ) → i < items 2 pairs → sent_in belts pairs new.flow i ≡ carried net (amounts net (outcome net q).flow) i
  sent-read i l =
      let o = outcome net q in
      let listed : i < commodities net = omega (arith, commodities-in n belts pairs limits) in
      let from : ℕ = i * items 4 belts in
      leaves-alike n belts pairs limits (amounts_in new.flow from) (number_at pairs (2 * i)) ∙
      (out-same net (amounts net o.flow i) (amounts_in new.flow from)
      (λ e b.
      ap (λ m. from_twos (number_at new.flow (i * m + e))) (sym (arcs-in n belts pairs limits)) ∙
      amount-read h a i e listed b)
      (number_at pairs (2 * i)) ∙
      (ap (outflow net (amounts net o.flow i)) (sym (source_in n belts pairs limits i l)) ∙ amount-leaves net q o (h.guarantee a) i listed))

  capacity-read : number_at new.answer 1 ≡ (outcome net q).answer.capacity
  unfolding numbers_of
  capacity-read = answer-read h a 1 (lit≤ tt)

  load_read : number_at new.answer 2 ≡ (outcome net q).answer.load
  unfolding numbers_of
  load_read = answer-read h a 2 (lit≤ tt)

  -- So what is written are the outcome's numbers.
  pub totes-are : parted (number_at new.answer 1) (number_at new.answer 2) (sent_in belts pairs new.flow) (items 2 pairs) ≡ totes_of net (outcome net q)
  totes-are =
      let o = outcome net q in
      ap₂ (λ c y. parted c y (sent_in belts pairs new.flow) (items 2 pairs)) capacity-read load_read ∙
      (parted-cong o.answer.capacity o.answer.load _ _ (items 2 pairs) sent-read ∙
      ap (parted o.answer.capacity o.answer.load (carried net (amounts net o.flow))) (sym (commodities-in n belts pairs limits)))

  -- The bytes are as reading them asks, where the tables have their room.
  pub readable : (totes : List ℕ) → commodities net * arcs net ≤ count new.flow → answer_numbers ≤ count new.answer → 2 * commodities net ≤ count totes →
      Readable belts pairs new.flow new.answer totes
  readable totes rows answers places =
      let k = commodities-in n belts pairs limits in
      let o = outcome net q in
      let g = h.guarantee a in
      record {
        rows = omega (arith, rows, ap₂ ◌*◌ k (arcs-in n belts pairs limits));
        answers = omega (arith, answers);
        places = omega (arith, places, k);
        divisor = rw load_read g.some-load;
        small = λ i l. rw (sent-read i l) (amount-fits net q o g i (omega (arith, k)));
        scaled = λ i l. rw (sent-read i l, capacity-read) (scaled_fits net q o g i (omega (arith, k)));
      }
