-- D, added up arc by arc as a loop over all arcs sets their lengths: what is known on the way and at the end.
-- Assumes nothing.
use mathlib.Core.Path.{◌≡◌, refl, sym, ap, ◌∙◌}
use mathlib.Core.List.{List}
use Prim.Native.Nat.{ℕ, suc, ◌+◌, ◌*◌, ◌^◌, ◌≤◌, ◌<◌}
use native.Mathlib.Numerals.{add-one}
use native.Mathlib.Omega.{arith}
use lib.ListN.{length, get_or, set}
use Rattle.arith.specs.Sum.{sum}
use Rattle.lengths.specs.Results.{Weighed}
use Rattle.tables.specs.Tables.{weight_of}
use Rattle.tables.proofs.Filled.{Filling, fill_none, fill_more, fill-all}
use Rattle.lengths.proofs.Weighable.{term, Weighable, sum-most}

-- The first n arcs have the lengths wanted, and d is their part of D.
pub record Weighing (wanted capacities old : List ℕ) (n : ℕ) (new : List ℕ) (d : ℕ) : Type 0 where
  pub filling : Filling (λ e. get_or wanted e 0) n old new
  pub weight : d ≡ sum n (term capacities wanted)

-- No arc has its length yet.
pub weigh-none : (wanted capacities old : List ℕ) → Weighing wanted capacities old 0 old 0
unfolding sum
weigh-none wanted capacities old = record { filling = fill_none _ old; weight = refl }

-- The next arc takes its length.
pub weigh-more :
    {wanted capacities old : List ℕ} {n : ℕ} {new : List ℕ} {d : ℕ} (l : ℕ) → Weighing wanted capacities old n new d → n < length old →
    l ≡ get_or wanted n 0 → Weighing wanted capacities old (n + 1) (set new n l) (d + get_or capacities n 0 * l)
unfolding sum
weigh-more l h b k = record { filling = fill_more l h.filling b k; weight = rw (add-one, h.weight, k) }

-- All arcs have theirs.
pub weigh-all :
    {wanted capacities old : List ℕ} {n : ℕ} {new : List ℕ} {d : ℕ} → Weighing wanted capacities old n new d → length old ≤ n →
    length wanted ≡ length old → length old ≡ length capacities → Weighed wanted capacities new d
weigh-all {wanted} {capacities} {old} {n} {new} h l long same =
    let done : new ≡ wanted = fill-all wanted h.filling l long (λ j b. refl) in
    let all : n ≡ length capacities = omega (arith, h.filling.within) in
    record { lengths = done; weight = h.weight ∙ (ap (λ i. sum i (term capacities wanted)) all ∙ ap (weight_of capacities) (sym done)) }

-- On the way D fits a word.
pub weighing-most :
    {wanted capacities old : List ℕ} {n : ℕ} {new : List ℕ} {d : ℕ} → Weighable capacities wanted → Weighing wanted capacities old n new d →
    n < length capacities → d < 2 ^ 58
weighing-most {n = n} w h l = rw h.weight (sum-most w n (omega arith))

-- and so does D with the next arc's part.
pub weigh-most :
    {wanted capacities old : List ℕ} {n : ℕ} {new : List ℕ} {d : ℕ} {l : ℕ} → Weighable capacities wanted →
    Weighing wanted capacities old n new d → n < length capacities → l ≡ get_or wanted n 0 →
    d + get_or capacities n 0 * l < 2 ^ 58
unfolding sum
weigh-most {n = n} w h b k = rw (h.weight, k) (sum-most w (suc n) b)
