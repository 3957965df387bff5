-- Growth along a path: what the lengths, D and the test of the mark are after the first arcs, and one arc further.
-- Assumes nothing.
use mathlib.Core.Path.{◌≡◌, refl, sym, ap, ◌∙◌}
use mathlib.Core.Bool.{Bool, false, ◌||◌}
use mathlib.Core.List.{List}
use Prim.Native.Nat.{ℕ, ◌+◌, ◌*◌, ◌-◌, ◌^◌, ◌≤◌, ◌<◌}
use native.Mathlib.Nat.{mul-le-mul}
use native.Mathlib.Omega.{arith}
use borrow.Author.Tests.{lt-leb}
use lib.Dec.{leb}
use lib.ListN.{length, get_or, set}
use Rattle.arith.proofs.Exists.{none-exists}
use Rattle.length.specs.Length.{mark, growth}
use Rattle.length.proofs.Size.{growth-least, growth-fits}
use Rattle.lengths.specs.Calls.{Growing}
use Rattle.tables.specs.Tables.{weight_of, at_mark}
use Rattle.tables.proofs.Followed.{Following, follow-none, follow-more, follow-long}
use Rattle.tables.proofs.OnPath.{follow-next}
use Rattle.tables.proofs.Stored.{set-weight, set-exists}
use Rattle.lengths.proofs.Weighable.{Weighable, sum-most}

-- Of the lengths ys, with the first j arcs of the path p grown: d is their D, which each arc raised by at most 2^51, and b is the test of the
-- mark.
pub record Lengthened (caps xs : List ℕ) (q g : ℕ) (p : List ℕ) (j : ℕ) (ys : List ℕ) (d : ℕ) (b : Bool) : Type 0 where
  pub follow : Following (λ e x. growth q g (get_or caps e 0) x) p j xs ys
  pub weight : d ≡ weight_of caps ys
  pub most : d ≤ 2 ^ 58 + j * 2 ^ 51
  pub marked : b ≡ at_mark ys

module _ {xs caps : List ℕ} {q g : ℕ} {p : List ℕ} (w : Growing xs caps q g p) where
  weighable : Weighable caps xs
  weighable = record { same = w.same; few = omega (arith, w.arcs); sizes = w.sizes.most; short = λ e l. omega (arith, w.short e l) }

  -- No arc has grown, and no length is at the mark.
  pub lengthen-none : (d : ℕ) → d ≡ weight_of caps xs → Lengthened caps xs q g p 0 xs d false
  unfolding mark
  lengthen-none d h =
      record {
        follow = follow-none _ p xs;
        weight = h;
        most = omega (arith, sum-most weighable (length caps) (omega arith));
        marked = sym (none-exists (length xs) (λ e. leb mark (get_or xs e 0)) (λ e l. lt-leb mark (get_or xs e 0) (omega (arith, w.short e l))));
      }

  module _ {j : ℕ} {ys : List ℕ} {d : ℕ} {b : Bool} (r : Lengthened caps xs q g p j ys d b) (l : j < length p) where
    abbrev arc : ℕ
    arc = get_or p j 0

    -- The next arc is among the arcs, and its length still below the mark.
    pub next_place : arc < length caps
    next_place = w.places j l

    pub next-short : get_or ys arc 0 < 2 ^ 40
    next-short = rw (follow-next r.follow l (omega (arith, w.once arc))) (w.short arc (omega (arith, next_place, w.same)))

    module _ (v : ℕ) (h : v ≡ growth q g (get_or caps arc 0) (get_or ys arc 0)) where
      pub next-longer : get_or ys arc 0 ≤ v
      next-longer = rw h (growth-least q g (get_or caps arc 0) (get_or ys arc 0))

      -- D grows by at most 2^51.
      pub next-rise : get_or caps arc 0 * (v - get_or ys arc 0) ≤ 2 ^ 51
      unfolding mark
      next-rise =
          let fits : v < 2 ^ 41 = rw h (growth-fits q g _ _ w.coarsest (w.sizes.least arc next_place) (w.drawn j l) next-short) in
          let wide : get_or caps arc 0 ≤ 1000 = w.sizes.most arc next_place in
          omega (arith, mul-le-mul {m₁ = v - get_or ys arc 0} {m₂ = 2 ^ 41} wide (omega arith))

      pub lengthen-more :
          (t : Bool) → t ≡ (b || leb mark v) →
          Lengthened caps xs q g p (j + 1) (set ys arc v) (d + get_or caps arc 0 * (v - get_or ys arc 0)) t
      lengthen-more t k =
          let same : length ys ≡ length caps = follow-long r.follow ∙ w.same in
          record {
            follow = follow-more arc v r.follow l refl h;
            weight = ap (λ x. x + get_or caps arc 0 * (v - get_or ys arc 0)) r.weight ∙ sym (set-weight caps ys arc v same next_place next-longer);
            most = omega (arith, r.most, next-rise);
            marked =
                k ∙ (ap (λ x. x || leb mark v) r.marked ∙ sym (set-exists (λ e. mark) ys arc v (omega (arith, next_place, same)) next-longer));
          }
