-- No call changes the length of a table, whatever its verdict. Assumes nothing.
use mathlib.Core.Path.{◌≡◌, refl}
use mathlib.Core.Bool.{Bool}
use mathlib.Core.List.{map}
use Prim.Native.Nat.{ℕ}
use native.Mathlib.Omega.{arith}
use lib.ListN.{length, length-map}
use Rattle.signed.specs.Signed.{twos}
use Rattle.network.specs.Network.{Network}
use Rattle.network.specs.Verdict.{afterwards}
use Rattle.network.specs.Refusal.{Verdict, Accepted, Refused}
use Rattle.numbers.proofs.Tables.{length-written}
use Rattle.method.specs.Answer.{numbers_of, outcome}
use Rattle.method.specs.Guarantee.{Guarantee}
use Rattle.call.specs.Host.{Slices, verdict_in, called}
use Rattle.call.proofs.ReadBack.{had-room}

module _ (lacking : Bool) (net : Network) (q office : ℕ) (old : Slices) (g : verdict_in lacking net q office old ≡ Accepted → Guarantee net q (outcome net q)) where
  lengths-after : (v : Verdict) → verdict_in lacking net q office old ≡ v →
      let t = called net q office v old in
      (length t.flow ≡ length old.flow) × (length t.lengths ≡ length old.lengths) × (length t.answer ≡ length old.answer)
  unfolding afterwards numbers_of
  lengths-after Accepted a =
      let f = (g a).fits in
      let room = had-room lacking net q office old a in (
        length-written old.flow (map twos (outcome net q).flow) (omega (arith, length-map (outcome net q).flow twos, f.amounts-count, room.0.for-flow)),
        length-written old.lengths (outcome net q).lengths (omega (arith, f.lengths-count, room.0.for-lengths)),
        length-written old.answer (numbers_of (outcome net q).answer) room.1,
      )
  lengths-after (Refused w) a = (refl, refl, refl)

  pub lengths-kept :
      let t = called net q office (verdict_in lacking net q office old) old in
      (length t.flow ≡ length old.flow) × (length t.lengths ≡ length old.lengths) × (length t.answer ≡ length old.answer)
  lengths-kept = lengths-after (verdict_in lacking net q office old) refl
