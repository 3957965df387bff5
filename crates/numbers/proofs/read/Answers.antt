-- `numbers::read` meets its contract: what std reads in the eight bytes from 8 * i is the number in them.
-- Assumes nothing.
use mathlib.Core.Path.{◌≡◌, ap, ◌∙◌}
use Prim.Native.Nat.{◌+◌, ◌*◌, ◌-◌}
use native.Mathlib.Omega.{arith}
use lib.ListN.{length, take, drop, length-take}
use lib.Seq.{take_all, length-take-le}
use Rattle.std.proofs.lemmas.Option.{MatchOption-at_some}
use Rattle.numbers.specs.Digits.{from_bytes}
use Rattle.numbers.specs.Numbers.{number_at}
use Rattle.numbers.proofs.Values.{value-std}
use Rattle.numbers.proofs.read.Goals as goal

pub returns : goal.returns
unfolding number_at
returns c =
    let from = drop (8 * c.args.i) c.args.s.now in
    let n = 8 * c.args.i + 8 - 8 * c.args.i in
    let size : n ≡ 8 = omega arith in
    let first = MatchOption-at_some _ _ _ c.unwrap-bytes.ensures c.first_chunk.ensures.cases in
    let whole = take_all 8 (take n from) (omega (arith, size, length-take n from)) in
    let bytes = first.same ∙ whole ∙ ap (λ k. take k from) size in
    let eight = ap length first.same ∙ length-take-le 8 _ first.enough in
    c.from_le_bytes.ensures ∙ value-std _ eight ∙ ap from_bytes bytes
