-- The resources of the nodes come into an index, one after the other, and the index stays what it is.
-- Assumes nothing.
use mathlib.Core.Path.{◌≡◌, refl, sym, ◌∙◌}
use mathlib.Core.List.{List}
use Prim.Native.Nat.{ℕ, ◌+◌, ◌≤◌, ◌<◌}
use native.Mathlib.Omega.{arith}
use lib.ListN.{length, get_or, set}
use lib.Seq.{get_or-set_same, get_or-set_other}
use borrow.Author.Count.{below_more}
use Rattle.network.specs.Network.{Network, arcs, limit}
use Rattle.network.specs.Resources.{place, resources}
use Rattle.index.specs.Index.{arcs_from, ends_from, places_from, place_at, resource_of, Place, Index}
use Rattle.index.specs.Indexing.{Located}
use Rattle.index.proofs.Limits.{place-first, place-on, place-more, resource-none, resource-is}

-- The nodes below v are passed, and next is the next resource.
pub record Locating (net : Network) (old new : List ℕ) (next v : ℕ) : Type 0 where
  pub next-is : next ≡ place net v
  pub passed : (u : ℕ) → u < v → place_at new u ≡ resource_of net u
  pub before : (i : ℕ) → i < places_from → get_or new i 0 ≡ get_or old i 0

module _ {net : Network} {old : List ℕ} where
  pub locating-none : {next : ℕ} → next ≡ arcs net → Locating net old old next 0
  locating-none q =
      record {
        next-is = q ∙ sym (place-first net);
        passed = λ u b. absurd (omega arith);
        before = λ i b. refl;
      }

  module _ {new : List ℕ} {next v : ℕ} (L : Locating net old new next v) (room : places_from + v < length new) where
    -- one more
    more : (r after : ℕ) → after ≡ place net (v + 1) → r ≡ resource_of net v → Locating net old (set new (places_from + v) r) after (v + 1)
    more r after q e =
        record {
          next-is = q;
          passed =
              below_more (λ u. place_at (set new (places_from + v) r) u ≡ resource_of net u) v
              (λ u b. get_or-set_other new (places_from + v) (places_from + u) r 0 (λ s. omega arith) ∙ L.passed u b)
              (get_or-set_same new (places_from + v) r 0 room ∙ e);
          before = λ i b. get_or-set_other new (places_from + v) i r 0 (λ s. omega arith) ∙ L.before i b;
        }

    -- A node without a limit,
    pub locating-none-limited : {r : ℕ} → limit net v ≡ 0 → r ≡ resources net → Locating net old (set new (places_from + v) r) next (v + 1)
    locating-none-limited {r} z q = more r next (L.next-is ∙ sym (place-on net v z)) (q ∙ sym (resource-none net v z))

    -- and one that has one.
    pub locating-limited : (limit net v ≡ 0 → ⊥) → Locating net old (set new (places_from + v) next) (next + 1) (v + 1)
    locating-limited n = more next (next + 1) (omega (arith, L.next-is, place-more net v n)) (L.next-is ∙ sym (resource-is net v n))

  pub locating-all : {new : List ℕ} {next v : ℕ} → Locating net old new next v → net.nodes < v → Located net old new
  locating-all L b = record { places = λ u c. L.passed u (omega arith); before = L.before }

-- What stands before the resources is all that an index of the arcs has.
module _ {R : ℕ → ℕ → ℕ → Type 0} {n : ℕ} {old new : List ℕ} (I : Index R n old) (same : (i : ℕ) → i < places_from → get_or new i 0 ≡ get_or old i 0) where
  module _ {v p e w : ℕ} (b : v ≤ n) where
    was : Place new v p e w → Place old v p e w
    was P =
        let nodes = I.nodes in
        let past = I.within v b in
        let next = same (v + 1) (omega arith) in
        let below = P.below in
        record {
          from = omega (arith, P.from, same v (omega arith));
          below = omega arith;
          arc = sym (same (arcs_from + p) (omega arith)) ∙ P.arc;
          end = sym (same (ends_from + p) (omega arith)) ∙ P.end;
        }

    stays : Place old v p e w → Place new v p e w
    stays P =
        let nodes = I.nodes in
        let past = I.within v b in
        let below = P.below in
        record {
          from = omega (arith, P.from, same v (omega arith));
          below = omega (arith, same (v + 1) (omega arith));
          arc = same (arcs_from + p) (omega arith) ∙ P.arc;
          end = same (ends_from + p) (omega arith) ∙ P.end;
        }

  pub index-located : length new ≡ length old → Index R n new
  index-located size =
      record {
        nodes = I.nodes;
        numbers = omega (arith, I.numbers);
        within = λ v b. omega (arith, I.within v b, I.nodes, same (v + 1) (omega (arith, I.nodes)));
        sound = λ v p e w b P. I.sound v p e w b (was b P);
        whole = λ v e w b r. let f = I.whole v e w b r in (f.0, stays b f.1);
        ascending = λ v p q e f w x b P Q l. I.ascending v p q e f w x b (was b P) (was b Q) l;
      }
