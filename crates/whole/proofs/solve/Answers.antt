-- `whole::solve` meets its contract, for every input. Assumes nothing.
use borrow.Author.Tests.{ltb-false}
use mathlib.Core.Path.{◌≡◌, sym, ap, ap₂, ◌∙◌}
use Prim.Native.Nat.{◌*◌}
use native.Mathlib.Omega.{arith}
use lib.Dec.{ltb}
use Rattle.network.specs.Network.{Network}
use Rattle.network.specs.Refusal.{host_number, Accepted}
use Rattle.network.proofs.Decided.{no-refusal}
use Rattle.network.proofs.First.{handed}
use Rattle.network.proofs.HostNumber.{zero-accepted}
use Rattle.numbers.specs.Numbers.{written}
use Rattle.decode.specs.Decode.{network_in}
use Rattle.decode.proofs.Items.{commodities-in}
use Rattle.call.specs.Deliver.{slices, slices_of}
use Rattle.call.specs.Host.{Slices, verdict_in, Hosted}
use Rattle.call.proofs.ReadBack.{taken-up, answered, turned_down, had-room}
use Rattle.whole.specs.Whole.{lacks}
use Rattle.whole.proofs.Reading.{totes-are, readable}
use Rattle.whole.proofs.solve.Goals as goal
use Rattle.whole.proofs.solve.Goals.{After-solve, In_ok-solve, Start}

-- the network and the slices at entry
abbrev net : Start → Network
net s = network_in s.args.n s.args.floor.now.belts.now s.args.floor.now.pairs.now s.args.floor.now.limits.now

abbrev lent : Start → Slices
lent s = slices s.args.tables.now.flow.now s.args.tables.now.lengths.now s.args.tables.now.answer.now s.args.counts.now

-- what the shared call has left
abbrev left : After-solve → Slices
left c =
    slices_of c.solve.new.tables c.solve.new.counts

-- the table of totes is too small, as the code and as the contract say it
lacking : (c : After-solve) → ltb c.count.result (2 * c.items.result) ≡ lacks (net (goal.at.After-solve c).Start) c.args.totes.now
lacking c =
    ap₂ ltb c.count.ensures
    (ap (λ k. 2 * k) (c.items.ensures ∙ sym (commodities-in c.args.n c.args.floor.now.belts.now c.args.floor.now.pairs.now c.args.floor.now.limits.now)))

hosted :
    (c : After-solve) →
    Hosted (lacks (net (goal.at.After-solve c).Start) c.args.totes.now) c.args.n c.args.q c.args.office c.args.floor.now.belts.now c.args.floor.now.pairs.now c.args.floor.now.limits.now (lent (goal.at.After-solve c).Start)
    (left c) (host_number c.solve.result)
hosted c = rw (← lacking c) c.solve.ensures.hosted

accepted :
    (c : In_ok-solve) →
    verdict_in (lacks (net (goal.at.In_ok-solve c).Start) c.args.totes.now) (net (goal.at.In_ok-solve c).Start) c.args.q c.args.office (lent (goal.at.In_ok-solve c).Start) ≡ Accepted
accepted c = answered (hosted (goal.at.In_ok-solve c).After-solve) (ap host_number c.in_ok-solve.was)

pub put_totes-requires : goal.put_totes-requires
put_totes-requires c =
    let h = hosted (goal.at.put_totes-requires c).After-solve in
    let a = accepted (goal.at.put_totes-requires c).In_ok-solve in
    let kept = c.solve.ensures.same in
    let room = had-room (lacks (net (goal.at.put_totes-requires c).Start) c.args.totes.now) (net (goal.at.put_totes-requires c).Start) c.args.q c.args.office (lent (goal.at.put_totes-requires c).Start) a in
    readable _ _ _ _ h a c.args.totes.now (omega (arith, room.0.for-flow, kept.flow-length)) (omega (arith, room.1, kept.answer-length)) (ltb-false _ _ room.2)

pub returns-clause-whole : goal.returns-clause-whole
returns-clause-whole c =
    let h = hosted (goal.at.returns-clause-whole c).After-solve in
    let a = accepted (goal.at.returns-clause-whole c).In_ok-solve in
    record {
      hosted = rw c.in_ok-solve.was at h;
      table = c.put_totes.ensures ∙ (ap (written c.args.totes.now) (totes-are _ _ _ _ h a) ∙ sym (taken-up a _ _));
    }

pub returns-in_err-solve-clause-whole : goal.returns-in_err-solve-clause-whole
returns-in_err-solve-clause-whole c =
    let h = hosted (goal.at.returns-in_err-solve-clause-whole c).After-solve in
    let w = c.in_err-solve.was in
    rw (handed w c.from_residual.ensures.1)
    (record { hosted = h; table = sym (turned_down h (λ z. no-refusal (sym (zero-accepted _ z) ∙ w)) _ _) })
