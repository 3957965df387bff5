-- A draw added to the loads along a path: what they and the test of the threshold are after the first arcs, and one arc
-- further.
-- Assumes nothing.
use mathlib.Core.Path.{◌≡◌, refl, sym, ap, ◌∙◌}
use mathlib.Core.Bool.{Bool, false, ◌||◌}
use mathlib.Core.List.{List}
use Prim.Native.Nat.{ℕ, ◌+◌, ◌*◌, ◌^◌, ◌<◌}
use native.Mathlib.Omega.{arith}
use lib.Dec.{leb}
use lib.ListN.{length, get_or, set}
use Rattle.tables.specs.Calls.{Loading}
use Rattle.tables.specs.Tables.{at_threshold}
use Rattle.tables.proofs.Amounts.{follow-most}
use Rattle.tables.proofs.Followed.{Following, follow-none, follow-more, follow-long}
use Rattle.tables.proofs.Stored.{set-exists}

-- Of the loads ys, with the first j arcs of the path p raised: b is the test of the threshold t.
pub record Raised (caps xs : List ℕ) (t : ℕ) (p : List ℕ) (g j : ℕ) (ys : List ℕ) (b : Bool) : Type 0 where
  pub follow : Following (λ e x. x + g) p j xs ys
  pub full : b ≡ at_threshold t caps ys

module _ {xs caps : List ℕ} {t : ℕ} {p : List ℕ} {g : ℕ} (w : Loading xs caps t p g) where
  -- No load is raised, and none is at the threshold.
  pub raise-none : Raised caps xs t p g 0 xs false
  raise-none = record { follow = follow-none _ p xs; full = sym w.none }

  module _ {j : ℕ} {ys : List ℕ} {b : Bool} (r : Raised caps xs t p g j ys b) (l : j < length p) where
    abbrev arc : ℕ
    arc = get_or p j 0

    -- The next arc is among the arcs, and its load is small.
    pub next_place : arc < length xs
    next_place = omega (arith, w.adding.places j l)

    pub next-load : get_or ys arc 0 < 2 ^ 32 + 128 * 1000
    next-load =
        omega (arith, follow-most 128 1000 r.follow w.adding.few w.adding.small arc, w.adding.amounts arc next_place)

    pub raise-more :
        (f : Bool) → f ≡ (b || leb (t * get_or caps arc 0) (get_or ys arc 0 + g)) →
        Raised caps xs t p g (j + 1) (set ys arc (get_or ys arc 0 + g)) f
    raise-more f k =
        let v : ℕ = get_or ys arc 0 + g in
        record {
          follow = follow-more arc v r.follow l refl refl;
          full =
              let among : arc < length ys = omega (arith, next_place, follow-long r.follow) in
              k ∙
              (ap (λ x. x || leb (t * get_or caps arc 0) v) r.full ∙
              sym (set-exists (λ e. t * get_or caps e 0) ys arc v among (omega arith)));
        }
