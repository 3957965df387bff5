-- `report::solved::put_belts` meets its contract. The loop's invariant: the rows of the first e arcs are put.
-- Assumes nothing.
use mathlib.Core.Path.{◌≡◌, refl, ap, ◌∙◌}
use Prim.Native.Nat.{◌*◌}
use native.Mathlib.Omega.{arith}
use lib.IntN.{ℤ, pos}
use lib.ListN.{get_or}
use mir.Syntax.{w64}
use mir.Val.{to_z, of_z}
use mir.ValLaws.{to_z-of_z}
use Rattle.signed.specs.Signed.{size}
use Rattle.rows.proofs.Puts.{put-length}
use Rattle.report.proofs.Rowed.{none-rowed, one-rowed, all-rowed, belt-length}
use Rattle.report.proofs.solved.put_belts.Goals as goal
use Rattle.report.proofs.solved.put_belts.Goals.{After-size-arg-1, After-size-load, In-loop-e}

abbrev amount : In-loop-e → ℤ
amount c = get_or c.args.flow.now c.loop-e.e (pos 0)

-- a signed local holds bits, which stand for the amount
reads : (c : After-size-arg-1) → to_z w64 (of_z w64 (amount (goal.at.After-size-arg-1 c).In-loop-e)) ≡ amount (goal.at.After-size-arg-1 c).In-loop-e
reads c = to_z-of_z w64 (amount (goal.at.After-size-arg-1 c).In-loop-e) (record { sfits = c.size-arg-1.given })

load : (c : After-size-load) → c.size-load.result ≡ size (amount (goal.at.After-size-load c).In-loop-e)
load c = c.size-load.ensures ∙ ap (λ x. size x) (reads (goal.at.After-size-load c).After-size-arg-1)

pub loop-e-init : goal.loop-e-init
loop-e-init c = record { rowed = none-rowed _ _ _ (omega arith); same_table = refl }

pub size-load-requires : goal.size-load-requires
size-load-requires c = omega (arith, ap (λ x. size x) (reads c), c.requires.sizes c.loop-e.e)

pub overflow_mul-load : goal.overflow_mul-load
overflow_mul-load c =
    omega (arith, ap (λ x. x * c.args.a) (load (goal.at.overflow_mul-load c).After-size-load), c.requires.fits c.loop-e.e c.loop-e-test.true)

pub put_belt-requires : goal.put_belt-requires
put_belt-requires c =
    let i = c.loop-e.invariant.rowed in
    omega (arith, put-length i.now, i.now.next, i.short)

pub loop-e-preserved : goal.loop-e-preserved
loop-e-preserved c =
    let a = c.args in
    let short = belt-length a.tails.now a.heads.now a.flow.now a.a a.y c.loop-e.e in
    record {
      rowed = one-rowed c.loop-e.invariant.rowed (rw (load (goal.at.loop-e-preserved c).After-size-load) at c.put_belt.ensures.rows) short;
      same_table = c.put_belt.ensures.same_table ∙ c.loop-e.invariant.same_table;
    }

pub returns-clause-rows : goal.returns-clause-rows
returns-clause-rows c = all-rowed _ c.loop-e.invariant.rowed (omega arith) (omega arith)
