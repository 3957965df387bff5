-- The pages of a memory: they stay as they are while lengths grow and bounds are raised, and a search changes one. Assumes nothing.
use mathlib.Core.Path.{◌≡◌, sym, ap, ◌∙◌}
use mathlib.Core.List.{List}
use Prim.Native.Nat.{ℕ, ◌+◌, ◌-◌, ◌≤◌, ◌<◌}
use native.Mathlib.Omega.{arith}
use lib.ListN.{length, get_or, take, drop, set, length-set}
use lib.Seq.{take-take, take-set-le, drop-set-lt, get_or-set_same}
use Rattle.arith.proofs.Order.{Compared, below, equal, above, compare}
use Rattle.bounds.specs.Bounds.{most_nodes, most_commodities}
use Rattle.network.specs.Ends.{Node}
use Rattle.network.specs.Network.{Network}
use Rattle.packed.specs.Packed.{part, put}
use Rattle.packed.specs.declared.Shape.{Shape}
use Rattle.packed.proofs.Columns.{part-put, part-before, part-behind}
use Rattle.paths.specs.Order.{distance_numbers, page_numbers, Searched}
use Rattle.memory.specs.Memory.{bounds_in, least_at, least_in, page_from, page_in, distances_in, memory_numbers, Page, Known, Memory}
use Rattle.memory.proofs.Bounds.{feasible-grown, below-grown}
use Rattle.memory.proofs.Raises.{part_same}

-- The distances on a page are the first numbers of it.
pub part-first : (a : ℕ) (xs : List ℕ) → take distance_numbers (part a page_numbers xs) ≡ part a distance_numbers xs
part-first a xs =
    let all : a + page_numbers - a ≡ page_numbers = omega arith in
    let some : a + distance_numbers - a ≡ distance_numbers = omega arith in
    rw (all, some) (take-take distance_numbers page_numbers (drop a xs) (omega arith))

-- The same page is in another memory.
page-same : {net : Network} {l old new : List ℕ} {t : ℕ} → page_in t new ≡ page_in t old → Page net l old t → Page net l new t
page-same {old = old} {new = new} {t = t} q P =
    let d : distances_in t new ≡ distances_in t old = sym (part-first (page_from t) new) ∙ (ap (take distance_numbers) q ∙ part-first (page_from t) old) in
    record { feasible = rw d P.feasible; capped = rw d P.capped; ordered = rw q P.ordered }

-- Pages stand behind the bounds.
pub page-raised :
    {net : Network} {l old new : List ℕ} {t : ℕ} → drop most_commodities new ≡ drop most_commodities old → Page net l old t → Page net l new t
page-raised {old = old} {new = new} {t = t} behind = page-same (part_same old new behind (page_from t) page_numbers (omega arith))

pub known_grown : {s : Shape} {net : Network} {l m memory : List ℕ} {i : ℕ} → ((e : ℕ) → get_or l e 0 ≤ get_or m e 0) → Known s net l memory i → Known s net m memory i
known_grown h K =
    record {
      places = K.places;
      below = below-grown h K.below;
      least = K.least;
      pages = λ t node. let P = K.pages t node in record { feasible = feasible-grown h P.feasible; capped = P.capped; ordered = P.ordered };
    }

-- A search has left its page at the place of t.
module _ {net : Network} {l : List ℕ} {t : ℕ} (M page : List ℕ) (few : net.nodes ≤ most_nodes) (places : memory_numbers ≤ length M) (node : Node net t)
    (size : length page ≡ page_numbers) (S : Searched net l page t) where
  abbrev after : List ℕ
  after = put (page_from t) page_numbers M page

  pub searched-distances : distances_in t after ≡ take distance_numbers page
  searched-distances =
      sym (part-first (page_from t) after) ∙ ap (take distance_numbers) (part-put (page_from t) page_numbers M page (omega arith) size)

  pub searched-bounds : (s : Shape) → s.commodities ≤ most_commodities → bounds_in s after ≡ bounds_in s M
  searched-bounds s few-k = part-before (page_from t) page_numbers M 0 s.commodities page (omega arith) (omega arith)

  pub searched-pages : ((u : ℕ) → Node net u → Page net l M u) → (u : ℕ) → Node net u → Page net l after u
  searched-pages pages u at = by_order (compare u t)
    where
      own : Page net l after t
      own =
          record {
            feasible = rw searched-distances S.table.distances.feasible;
            capped = rw searched-distances S.table.capped;
            ordered = rw (part-put (page_from t) page_numbers M page (omega arith) size) S.ordered;
          }

      by_order : Compared u t → Page net l after u
      by_order (below b) = page-same (part-before (page_from t) page_numbers M (page_from u) page_numbers page (omega arith) (omega arith)) (pages u at)
      by_order (equal q) = rw q own
      by_order (above b) = page-same (part-behind (page_from t) page_numbers M page (omega arith) size (page_from u) page_numbers (omega arith)) (pages u at)

-- A commodity is noted between the bounds and the pages.
module _ (s : Shape) (memory : List ℕ) (j : ℕ) (few : s.commodities ≤ most_commodities) where
  abbrev noted : List ℕ
  noted = set memory least_at j

  pub noted-bounds : bounds_in s noted ≡ bounds_in s memory
  noted-bounds = let whole : 0 + s.commodities - 0 ≡ s.commodities = omega arith in rw whole (take-set-le s.commodities memory least_at j (omega arith))

  noted-part : (b n : ℕ) → least_at < b → part b n noted ≡ part b n memory
  noted-part b n past = ap (take (b + n - b)) (drop-set-lt b memory least_at j past)

  pub noted-distances : (t : ℕ) → distances_in t noted ≡ distances_in t memory
  noted-distances t = noted-part (page_from t) distance_numbers (omega arith)

  module _ (places : memory_numbers ≤ length memory) where
    pub noted-least : least_in noted ≡ j
    noted-least = get_or-set_same memory least_at j 0 (omega arith)

    pub known-noted : {net : Network} {l : List ℕ} → Known s net l memory j → Memory s net l noted
    known-noted K =
        rw noted-least (record {
          places = omega (arith, length-set memory least_at j);
          below = rw noted-bounds K.below;
          least = rw noted-bounds K.least;
          pages = λ t node. page-same (noted-part (page_from t) page_numbers (omega arith)) (K.pages t node);
        })
