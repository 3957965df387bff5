-- Lengths of which D can be summed: it stays below 2^58. First lengths are such, and grown ones once they are halved. Assumes nothing.
use mathlib.Core.Path.{◌≡◌, ◌∙◌}
use mathlib.Core.List.{List, map}
use Prim.Native.Nat.{ℕ, ◌*◌, ◌^◌, ◌≤◌, ◌<◌}
use native.Mathlib.Nat.{mul-le-mul}
use native.Mathlib.Omega.{arith}
use lib.ListN.{length, get_or, length-map}
use Rattle.arith.specs.Sum.{sum}
use Rattle.arith.proofs.Sums.{sum-le, sum-const}
use Rattle.bounds.specs.Bounds.{most_arcs, most_capacity}
use Rattle.length.specs.Length.{mark, start, halving}
use Rattle.length.proofs.Size.{start_fits, halving-fits}
use Rattle.lengths.specs.Calls.{Startable, Settling}
use Rattle.lengths.specs.Results.{first_lengths}
use Rattle.tables.specs.Tables.{NoneAbove}
use Rattle.arith.proofs.Lists.{map_at}

-- capacity times length of arc e
abbrev pub term : List ℕ → List ℕ → ℕ → ℕ
term capacities lengths e = get_or capacities e 0 * get_or lengths e 0

pub record Weighable (capacities lengths : List ℕ) : Type 0 where
  pub same : length lengths ≡ length capacities
  pub few : length capacities ≤ most_arcs
  pub sizes : NoneAbove most_capacity capacities
  pub short : NoneAbove (2 ^ 40) lengths

-- Each term is at most 1,000 * 2^40, and up to 256 of them together are below 2^58.
module _ {capacities lengths : List ℕ} (w : Weighable capacities lengths) where
  term-most : (e : ℕ) → e < length capacities → term capacities lengths e ≤ 1000 * 2 ^ 40
  term-most e l = mul-le-mul {n₂ = 1000} {m₂ = 2 ^ 40} (w.sizes e l) (omega (arith, w.short e (omega (arith, w.same))))

  pub sum-most : (n : ℕ) → n ≤ length capacities → sum n (term capacities lengths) < 2 ^ 58
  sum-most n l =
      let each = sum-le n (term capacities lengths) (λ e. 1000 * 2 ^ 40) (λ e h. term-most e (omega arith)) in
      omega (arith, each, sum-const n (1000 * 2 ^ 40), w.few)

pub first-weighable : {capacities lengths : List ℕ} → Startable capacities lengths → Weighable capacities (first_lengths capacities)
unfolding mark
first-weighable {capacities} w =
    record {
      same = length-map capacities start;
      few = w.arcs;
      sizes = w.sizes.most;
      short = λ e l.
          let b : e < length capacities = rw length-map at l in
          omega (arith, map_at start capacities e b, start_fits (get_or capacities e 0) (w.sizes.least e b));
    }

pub halved-weighable : {capacities lengths : List ℕ} → Settling capacities lengths → Weighable capacities (map halving lengths)
unfolding mark
halved-weighable {capacities} {lengths} w =
    record {
      same = length-map lengths halving ∙ w.same;
      few = w.arcs;
      sizes = w.sizes;
      short = λ e l.
          let b : e < length lengths = rw length-map at l in
          omega (arith, map_at halving lengths e b, halving-fits (get_or lengths e 0) (omega (arith, w.grown e b)));
    }
