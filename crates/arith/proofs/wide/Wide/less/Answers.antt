-- `arith::wide::Wide::less` meets its contract. Assumes nothing.
use mathlib.Core.Path.{◌≡◌}
use Prim.Native.Nat.{suc, ◌-◌}
use native.Mathlib.Omega.{arith}
use Rattle.arith.proofs.Comparing.{Level, level-step, level-decides}
use Rattle.arith.proofs.wide.Wide.less.Goals as goal
use Rattle.arith.proofs.wide.Wide.less.Goals.{In-loop-i}

-- The place that a turn looks at is one below i.
above : (c : In-loop-i) → Level c.args.self.limbs c.args.other.limbs (suc (c.loop-i.i - 1))
above c = let e : suc (c.loop-i.i - 1) ≡ c.loop-i.i = omega arith in rw e c.loop-i.invariant

pub returns-then-p-q : goal.returns-then-p-q
returns-then-p-q c =
    level-decides c.requires.0 c.requires.1 (above (goal.at.returns-then-p-q c).In-loop-i) c.if-p-q.true

pub loop-i-preserved : goal.loop-i-preserved
loop-i-preserved c = level-step (above (goal.at.loop-i-preserved c).In-loop-i) c.if-p-q.false
