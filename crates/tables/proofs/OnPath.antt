-- The arcs of a path by their places on it: how often the path has them, what an update has done to them on the way, and the draw among them.
-- Assumes nothing.
use mathlib.Core.Path.{◌≡◌, refl}
use mathlib.Core.List.{List, [], ◌∷◌}
use Prim.Native.Nat.{ℕ, zero, suc, ◌≤◌, ◌<◌}
use native.Mathlib.Nat.{le_of_suc-le-suc, not-suc-le-zero, le_trans}
use native.Mathlib.Omega.{arith}
use lib.ListN.{length, get_or, take}
use Rattle.method.specs.Iteration.{draw}
use Rattle.method.proofs.Changed.{update_other}
use Rattle.method.proofs.Draws.{draw-within}
use Rattle.arith.specs.Times.{times}
use Rattle.method.proofs.Times.{once-same, Below, none, also}
use Rattle.tables.specs.Tables.{Under, NoneAbove}
use Rattle.tables.proofs.Followed.{Following}

-- A path has the arc at its place j,
pub times-at : (p : List ℕ) (j : ℕ) → j < length p → 1 ≤ times (get_or p j 0) p
unfolding times
times-at [] j l = absurd (not-suc-le-zero l)
times-at (e ∷ p) zero l = omega (arith, once-same e)
times-at (e ∷ p) (suc j) l = omega (arith, times-at p j (le_of_suc-le-suc l))

-- and if it has it once, not before that place,
times-before : (p : List ℕ) (j : ℕ) → j < length p → times (get_or p j 0) p ≤ 1 → times (get_or p j 0) (take j p) ≡ 0
unfolding times
times-before [] j l h = absurd (not-suc-le-zero l)
times-before (e ∷ p) zero l h = refl
times-before (e ∷ p) (suc j) l h =
    omega (arith, times-at p j (le_of_suc-le-suc l), times-before p j (le_of_suc-le-suc l) (omega arith))

-- so that the arc has its number unchanged when its turn comes.
pub follow-next :
    {f : ℕ → ℕ → ℕ} {p : List ℕ} {j : ℕ} {xs ys : List ℕ} → Following f p j xs ys → j < length p → times (get_or p j 0) p ≤ 1 →
    get_or ys (get_or p j 0) 0 ≡ get_or xs (get_or p j 0) 0
follow-next {f} {p} {j} {xs} h l k = rw h.now (update_other f (take j p) xs (get_or p j 0) (times-before p j l k))

-- The draw is within the capacity of the arc at each place,
pub draw-at : (capacities p : List ℕ) (j : ℕ) → j < length p → draw capacities p ≤ get_or capacities (get_or p j 0) 0
draw-at capacities p j l = draw-within capacities p (get_or p j 0) (times-at p j l)

-- it is the greatest such number,
draw-greatest :
    (capacities p : List ℕ) (g : ℕ) → 1 ≤ length p → ((j : ℕ) → j < length p → g ≤ get_or capacities (get_or p j 0) 0) →
    g ≤ draw capacities p
unfolding draw
draw-greatest capacities [] g l h = absurd (not-suc-le-zero l)
draw-greatest capacities (e ∷ []) g l h = h 0 (omega arith)
draw-greatest capacities (e ∷ (d ∷ p)) g l h =
    omega (arith, h 0 (omega arith), draw-greatest capacities (d ∷ p) g (omega arith) (λ j b. h (suc j) (omega arith)))

pub draw-least :
    (capacities p : List ℕ) {g : ℕ} → ((j : ℕ) → j < length p → g ≤ get_or capacities (get_or p j 0) 0) →
    ((j : ℕ) × (j < length p) × (g ≡ get_or capacities (get_or p j 0) 0)) → g ≡ draw capacities p
draw-least capacities p {g} h (j, l, q) =
    omega (arith, draw-greatest capacities p g (omega arith) h, draw-at capacities p j l)

-- and so at most 1000.
pub draw-most : (capacities p : List ℕ) → 1 ≤ length p → Under (length capacities) p → NoneAbove 1000 capacities → draw capacities p ≤ 1000
draw-most capacities p l u w = le_trans (draw-at capacities p 0 l) (w (get_or p 0 0) (u 0 l))

-- The theory says by `Below` that all arcs are among n, the contracts by their places.
pub below-under : {n : ℕ} {p : List ℕ} → Below n p → Under n p
below-under none j l = absurd (not-suc-le-zero l)
below-under (also h b) zero l = h
below-under (also h b) (suc j) l = below-under b j (le_of_suc-le-suc l)
