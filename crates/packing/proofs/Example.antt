-- A whole run, so that nothing is proved of nothing: two resources of capacity 1 at precision 4, the shorter one drawn each time.
-- It is the run of the listing in document 01, "File and listing": 31 iterations to the load mark, with a halving on the way.
-- Assumes nothing.
use mathlib.Core.Path.{refl}
use mathlib.Core.Bool.{Bool, true, false}
use Prim.Native.Nat.{ℕ, zero, suc, ◌*◌, ◌-◌, ◌^◌, ◌≤◌}
use lib.Dec.{T, leb, ltb, eqb, lit≤, lit<}
use Rattle.arith.specs.Ceiling.{ceil}
use Rattle.arith.specs.Sum.{sum}
use Rattle.packing.proofs.Every.{both}
use Rattle.packing.proofs.Near.{near-two}
use Rattle.packing.proofs.Program.{Program}
use Rattle.packing.proofs.Run.{Start, Iteration, Run, Below}
use Rattle.packing.proofs.TwoIterations.{iteration, first, second}
use Rattle.packing.proofs.TwoResources.{Table, ones, state, two, move}

-- the first resource drawn if the test says so, otherwise the second
abbrev shorter : Bool → Table → Table
shorter true t = move 1 0 t.l₀ t
shorter false t = move 0 1 t.l₁ t

shorter-iteration : (b : Bool) (t : Table) → Iteration 2 4 ones (state t) (state (shorter b t))
shorter-iteration true t = iteration 1 0 t.l₀ t (first t)
shorter-iteration false t = iteration 0 1 t.l₁ t (second t)

-- the table after n iterations
pub after : ℕ → Table
after zero = record { l₀ = 2 ^ 36; l₁ = 2 ^ 36; y₀ = 0; y₁ = 0; total = 0; count = 0; bound = 1; alpha = 0 }
after (suc n) = let t = after n in shorter (leb t.l₀ t.l₁) t

started : Start 2 ones (state (after 0))
unfolding after ceil
started = record { length = two _ refl refl; load = two _ refl refl; total = refl; count = refl; bound = refl; alpha = refl }

pub run : (n : ℕ) → Run 2 4 ones (state (after n))
unfolding after
run zero = Run.start started
run (suc n) = Run.next (run n) (shorter-iteration (leb (after n).l₀ (after n).l₁) (after n))

pub program : Program 2 4 4 ones
program = record {
  resources-low = lit≤ tt;
  resources-high = lit≤ tt;
  precision-low = lit≤ tt;
  precision-high = lit≤ tt;
  capacity-low = λ e b. lit≤ tt;
  capacity-high = λ e b. lit≤ tt;
  level = lit≤ tt;
  enough = lit≤ tt;
  room = lit≤ tt;
  slack = lit≤ tt;
}

-- the figures of the listing
pub listed : Table → Bool
listed t =
    both (eqb t.total 31) (both (eqb t.count 31) (both (eqb t.y₀ 16) (both (eqb t.y₁ 15)
    (both (eqb t.bound 137438953472) (eqb t.alpha 68719476736)))))

pub as-listed : T (listed (after 31))
unfolding listed after ceil sum
as-listed = tt

-- The twenty-fifth iteration halves: a length that it does not draw falls.
pub halves : T (ltb (after 25).l₁ (after 24).l₁)
unfolding after ceil
halves = tt

-- No load reaches its mark, 16, before the last iteration.
pub unfinished : Below 2 4 4 ones (state (after 30))
unfolding after ceil sum
unfinished = two _ (lit< tt) (lit< tt)

-- The guarantee at the end of this run.
pub guaranteed : (4 - 2) * ((after 31).bound * (after 31).y₀) ≤ 4 * ((after 31).total * 1 * (after 31).alpha)
unfolding after ceil sum
guaranteed = near-two program (run 30) unfinished (shorter-iteration (leb (after 30).l₀ (after 30).l₁) (after 30)) 0 (lit< tt) (lit≤ tt)
