-- `arith::wide::WideFromU64::from` meets its contract: two limbs write a number of 64 bits. Assumes nothing.
use native.Mathlib.Omega.{arith}
use Prim.Native.Nat.{◌-◌}
use Rattle.arith.specs.Limbs.{width}
use Rattle.arith.proofs.Writing.{limbs-zeros, limbs-set, value-two}
use Rattle.arith.proofs.wide.WideFromU64.from.Goals as goal

pub returns : goal.returns
returns c =
    record {
      limbs = limbs-set _ 1 _ (limbs-set _ 0 _ (limbs-zeros width) (omega arith)) (omega arith);
      number = value-two (width - 2) c.args.x;
    }
