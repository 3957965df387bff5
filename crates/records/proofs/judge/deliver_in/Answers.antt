-- `records::judge::deliver_in` meets its contract: the first places of the flow table are lent to the solver, those of the lengths take the kept ones.
-- Assumes nothing.
use mathlib.Core.Path.{◌≡◌, sym, ◌∙◌}
use Prim.Native.Nat.{ℕ, ◌+◌, ◌*◌, ◌≤◌}
use native.Mathlib.Omega.{arith}
use lib.ListN.{length, take, length-replicate}
use lib.Seq.{length-take-le}
use Rattle.packed.proofs.Columns.{part_length, arcs-is, commodities-is}
use Rattle.records.proofs.Judged.{placed, replied-accepted}
use Rattle.records.proofs.judge.deliver_in.Goals as goal
use Rattle.records.proofs.judge.deliver_in.Goals.{After-solve-answer, Start}

-- what is lent of each table
module _ (s : Start) where
  abbrev r : ℕ
  r = s.args.net.now.shape.resources

  abbrev size : ℕ
  size = s.args.net.now.shape.commodities * s.args.net.now.shape.arcs

  few : r ≤ 256
  few = let p = s.requires.lent in omega (arith, p.counted, p.sound.counts.of-resources)

  flows : length (take size s.args.flow.now) ≡ size
  flows = length-take-le _ s.args.flow.now s.requires.room.for-flow

  bests : length (take r s.args.lengths.now) ≡ r
  bests = length-take-le _ s.args.lengths.now s.requires.room.for-lengths

pub slice_bounds-solve-end-2 : goal.slice_bounds-solve-end-2
slice_bounds-solve-end-2 c = sym (flows (goal.at.slice_bounds-solve-end-2 c).Start)

pub solve-answer-requires : goal.solve-answer-requires
solve-answer-requires c =
    let p = c.requires.lent.packed in
    record { lent = c.requires.lent; flows = rw (commodities-is p, arcs-is p) (flows (goal.at.solve-answer-requires c).Start); places = omega (arith, length-replicate {A = ℕ} 768 0) }

-- the kept lengths are as many as the resources
kept-many : (c : After-solve-answer) → 512 + r (goal.at.After-solve-answer c).Start ≤ length c.solve-answer.new.tables
kept-many c = omega (arith, few (goal.at.After-solve-answer c).Start, c.solve-answer.auto.tables, length-replicate {A = ℕ} 768 0)

pub copy_from_slice-requires : goal.copy_from_slice-requires
copy_from_slice-requires c =
    bests (goal.at.copy_from_slice-requires c).Start ∙ sym (part_length _ (r (goal.at.copy_from_slice-requires c).Start) c.solve-answer.new.tables (omega (arith, kept-many (goal.at.copy_from_slice-requires c).After-solve-answer)))

pub returns : goal.returns
returns c =
    let v = c.solve-answer in
    replied-accepted _ c.args.q c.args.flow.now c.args.lengths.now _ _ v.result v.ensures.answers
    (placed _ _ c.args.flow.now _ v.ensures.flows (v.auto.flow ∙ flows (goal.at.returns c).Start))
    (placed _ _ c.args.lengths.now _ (c.copy_from_slice.ensures.after ∙ v.ensures.lengths) (c.copy_from_slice.auto.self ∙ bests (goal.at.returns c).Start))
    v.ensures.guarantee
