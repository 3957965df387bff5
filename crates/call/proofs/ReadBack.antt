-- What a host reads back from the tables of an accepted call is the outcome's numbers, none of them cut. Assumes nothing.
use mathlib.Core.Path.{◌≡◌, sym, ap, ◌∙◌}
use mathlib.Core.Bool.{Bool, false}
use mathlib.Core.List.{List}
use Prim.Native.Nat.{ℕ, ◌+◌, ◌*◌, ◌-◌, ◌≤◌, ◌<◌}
use native.Mathlib.Nat.{mul-le-mul_right}
use native.Mathlib.Omega.{arith}
use lib.ListN.{length, get_or}
use Rattle.bounds.specs.Bounds.{answer_numbers}
use Rattle.signed.specs.FromTwos.{from_twos}
use Rattle.network.specs.Network.{Network, arcs, commodities}
use Rattle.network.specs.Resources.{resources}
use Rattle.network.specs.Sound.{Sound}
use Rattle.network.specs.Verdict.{verdict, afterwards}
use Rattle.network.specs.Refusal.{Verdict, Accepted}
use Rattle.network.proofs.Accepted.{accepted-sound}
use Rattle.network.proofs.HostNumber.{zero-accepted, other-kept}
use Rattle.numbers.specs.Numbers.{count, number_at, written}
use Rattle.numbers.proofs.Puts.{number_at-put_at, number_at-put_at-other}
use Rattle.numbers.proofs.Signed.{signed-read}
use Rattle.numbers.proofs.Tables.{number_at-written}
use Rattle.method.specs.Answer.{amounts, numbers_of, outcome}
use Rattle.method.specs.Fits.{Unsigned64}
use Rattle.call.specs.Deliver.{Room}
use Rattle.call.specs.Host.{Slices, count_of, raised, host_conditions, verdict_in, solved, Served}
use Rattle.call.proofs.Counting.{count_small}
use Rattle.call.proofs.Hosts.{lacks-none, has-count, not_full, open-for}

-- What an accepted call leaves, and a number written into a table.
pub taken-up : {A : Type 0} {v : Verdict} → v ≡ Accepted → (x y : A) → afterwards v x y ≡ x
unfolding afterwards
taken-up a x y = ap (λ v. afterwards v x y) a

read_back : (old xs : List ℕ) {new : List ℕ} → new ≡ written old xs → Unsigned64 xs → (i : ℕ) → i < length xs → number_at new i ≡ get_or xs i 0
read_back old xs e w i l = ap (λ s. number_at s i) e ∙ number_at-written old xs i l (w i)

-- A call that returned 0 was accepted; what another leaves of a table of its own is that table as it was.
pub answered : {net : Network} {q office r : ℕ} {v : Verdict} {old new : Slices} → Served net q office v old new r → r ≡ 0 → v ≡ Accepted
answered {v = v} h e = zero-accepted v (sym h.returned ∙ e)

pub turned_down :
    {net : Network} {q office r : ℕ} {v : Verdict} {old new : Slices} → Served net q office v old new r → (r ≡ 0 → ⊥) → {A : Type 0} (x y : A) → afterwards v x y ≡ y
turned_down {v = v} h ne x y = other-kept v x y (λ e. ne (h.returned ∙ e))

-- place e of row i, m places a row
within : (i k e m : ℕ) → i < k → e < m → i * m + e < k * m
within i k e m h l = omega (arith, mul-le-mul_right m h)

-- The tables.
module _ {net : Network} {q office r : ℕ} {v : Verdict} {old new : Slices} (h : Served net q office v old new r) (a : v ≡ Accepted) where
  pub left : new ≡ solved net q office old
  left = h.left ∙ taken-up a (solved net q office old) old

  pub amount-read : (i e : ℕ) → i < commodities net → e < arcs net →
      from_twos (number_at new.flow (i * arcs net + e)) ≡ amounts net (outcome net q).flow i e
  unfolding amounts
  amount-read i e b l =
      let f = (h.guarantee a).fits in
      ap (λ s. from_twos (number_at s (i * arcs net + e))) (ap (λ s. s.flow) left) ∙
      signed-read _ (outcome net q).flow (i * arcs net + e) (rw f.amounts-count (within i (commodities net) e (arcs net) b l))
      (f.flow (i * arcs net + e))

  pub length-read : (e : ℕ) → e < resources net → number_at new.lengths e ≡ get_or (outcome net q).lengths e 0
  length-read e l =
      let f = (h.guarantee a).fits in
      read_back old.lengths (outcome net q).lengths (ap (λ s. s.lengths) left) f.lengths e (rw f.lengths-count l)

  pub answer-read : (j : ℕ) → j < answer_numbers → number_at new.answer j ≡ get_or (numbers_of (outcome net q).answer) j 0
  unfolding numbers_of
  answer-read j l = read_back old.answer (numbers_of (outcome net q).answer) (ap (λ s. s.answer) left) (h.guarantee a).fits.answer j l

module _ (lacking : Bool) (net : Network) (q office : ℕ) (old : Slices) (a : verdict_in lacking net q office old ≡ Accepted) where
  pub accepted : Sound net q × (verdict (host_conditions lacking (commodities net) (arcs net) (resources net) office old) ≡ Accepted)
  accepted = accepted-sound net q (host_conditions lacking (commodities net) (arcs net) (resources net) office old) a

  -- The tables had their room, and the call lacked none of its own.
  pub had-room : Room (commodities net) (arcs net) (resources net) old.flow old.lengths × (answer_numbers ≤ count old.answer) × (lacking ≡ false)
  had-room =
      let o = open-for lacking (commodities net) (arcs net) (resources net) office old accepted.1 in
      (o.for-tables, o.for-answer, lacks-none lacking (commodities net) (arcs net) (resources net) office old accepted.1)

  -- The office's count is raised, and no other number of the table has changed.
  module _ {new : Slices} {r : ℕ} (h : Served net q office (verdict_in lacking net q office old) old new r) where
    raises : new.counts ≡ raised office (outcome net q).answer.count old.counts
    raises = ap (λ s. s.counts) (left h a)

    there : office - 1 < count old.counts
    there = has-count lacking (commodities net) (arcs net) (resources net) office old accepted.1

    pub count-read : count_of office new.counts ≡ count_of office old.counts + (outcome net q).answer.count
    count-read =
        ap (count_of office) raises ∙
        number_at-put_at old.counts (office - 1) (count_of office old.counts + (outcome net q).answer.count) there
        (omega (
          arith,
          count_small net q accepted.0 (outcome net q) (h.guarantee a),
          not_full lacking (commodities net) (arcs net) (resources net) office old accepted.1,
        ))

    pub others-read : (i : ℕ) → (i ≡ office - 1 → ⊥) → number_at new.counts i ≡ number_at old.counts i
    others-read i ne =
        ap (λ s. number_at s i) raises ∙ number_at-put_at-other old.counts (office - 1) (count_of office old.counts + (outcome net q).answer.count) there i ne
