-- `numbers::write` meets its contract: std's eight bytes of the number are its digits. Assumes nothing.
use mathlib.Core.Path.{◌≡◌, ◌∙◌}
use Prim.Native.Nat.{◌+◌, ◌*◌, ◌-◌}
use native.Mathlib.Omega.{arith}
use lib.Seq.{drop-drop}
use Rattle.numbers.specs.Numbers.{put_at}
use Rattle.numbers.proofs.Digits.{digits-std}
use Rattle.numbers.proofs.write.Goals as goal

pub returns : goal.returns
unfolding put_at
returns c =
    let digits = c.copy_from_slice.ensures.after ∙ c.to_le_bytes.ensures ∙ digits-std c.args.x in
    let eight : 8 * c.args.i + 8 - 8 * c.args.i ≡ 8 = omega arith in
    rw (digits, eight, drop-drop)
