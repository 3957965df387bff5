-- Pages replaced one after the other; the orders at the start of a run, and what is forgotten is a memory whatever the lengths. Assumes nothing.
use mathlib.Core.Path.{◌≡◌, refl, sym, ap, subst, ◌∙◌}
use mathlib.Core.List.{List, ◌++◌, ◌∷◌}
use Prim.Native.Nat.{ℕ, zero, suc, ◌+◌, ◌-◌, ◌≤◌, ◌<◌}
use native.Mathlib.Nat.{le_of_suc-le-suc}
use native.Mathlib.Omega.{arith}
use borrow.Author.Count.{below_none, below_more}
use lib.ListN.{length, get_or, take, drop, replicate, length-replicate}
use lib.Seq.{take-take, take_at, drop_at, drop-drop, get_or-take, get_or-drop, get_or-append-add}
use Rattle.arith.proofs.Lists.{all_replicate}
use Rattle.bounds.specs.Bounds.{most_nodes, most_commodities}
use Rattle.network.specs.Ends.{Node, Ends}
use Rattle.network.specs.Network.{Network, commodities}
use Rattle.network.proofs.Leads.{leads-from}
use Rattle.packed.specs.Packed.{part, put}
use Rattle.packed.specs.declared.Shape.{Shape}
use Rattle.packed.proofs.Columns.{part_at, part-put, part-before, put-length, drop-behind}
use Rattle.paths.specs.Order.{distance_numbers, order_from, page_numbers, node_at, Ordered}
use Rattle.memory.specs.Forgotten.{Begun, cleared, PagesCleared, Forgotten}
use Rattle.memory.specs.Least.{Least}
use Rattle.memory.specs.Memory.{least_at, least_in, pages_from, page_from, page_in, distances_in, memory_numbers, Page, Memory}
use Rattle.memory.proofs.Bounds.{below-zero}

-- What is the same behind a place is the same further on.
drop_more : (a b : ℕ) (xs ys : List ℕ) → a ≤ b → drop a xs ≡ drop a ys → drop b xs ≡ drop b ys
drop_more a b xs ys h q =
    let whole : a + (b - a) ≡ b = omega arith in
    let split : (zs : List ℕ) → drop (b - a) (drop a zs) ≡ drop b zs = λ zs. drop-drop (b - a) a zs ∙ ap (λ i. drop i zs) whole in
    sym (split xs) ∙ (ap (drop (b - a)) q ∙ split ys)

-- The first t pages are replaced, each by one of which R says something, and all else is as it was.
pub record Paged (R : List ℕ → List ℕ → Type 0) (old new : List ℕ) (t : ℕ) : Type 0 where
  pub size : length new ≡ length old
  pub front : take pages_from new ≡ take pages_from old
  pub done : (u : ℕ) → u < t → R (page_in u old) (page_in u new)
  pub rest : drop (page_from t) new ≡ drop (page_from t) old

-- None is,
pub paged-none : (R : List ℕ → List ℕ → Type 0) (memory : List ℕ) → Paged R memory memory 0
paged-none R memory =
    record { size = refl; front = refl; done = below_none (λ u. R (page_in u memory) (page_in u memory)); rest = refl }

-- and one more is.
module _ {R : List ℕ → List ℕ → Type 0} {old new : List ℕ} {t : ℕ} (P : Paged R old new t) (room : page_from t + page_numbers ≤ length new)
    (page : List ℕ) (long : length page ≡ page_numbers) where
  abbrev after : List ℕ
  after = put (page_from t) page_numbers new page

  same : page_in t new ≡ page_in t old
  same = ap (take (page_from t + page_numbers - page_from t)) P.rest

  own : page_in t after ≡ page
  own = part-put (page_from t) page_numbers new page room long

  earlier : (u : ℕ) → u < t → page_in u after ≡ page_in u new
  earlier u b = part-before (page_from t) page_numbers new (page_from u) page_numbers page (omega arith) (omega arith)

  pub paged-more : R (page_in t new) page → Paged R old after (t + 1)
  paged-more r =
      record {
        size = put-length (page_from t) page_numbers new page room long ∙ P.size;
        front = part-before (page_from t) page_numbers new 0 pages_from page (omega arith) (omega arith) ∙ P.front;
        done = below_more (λ u. R (page_in u old) (page_in u after)) t
            (λ u b. subst (R (page_in u old)) (sym (earlier u b)) (P.done u b))
            (subst (λ xs. R xs (page_in t after)) same (subst (R (page_in t new)) (sym own) r));
        rest =
            drop-behind (page_from t) page_numbers new page room long (page_from (t + 1)) (omega arith) ∙
            drop_more (page_from t) (page_from (t + 1)) new old (omega arith) P.rest;
      }

-- An order 1, 2, .., n has every node.
pub begun-ordered : {net : Network} {memory : List ℕ} → Begun net.nodes memory → (t : ℕ) → Node net t → Ordered net (page_in t memory)
begun-ordered B t at =
    record {
      node = λ p b. omega (arith, B.orders t at.1 p b);
      found = λ v node. (v - 1, omega (arith, node), B.orders t at.1 (v - 1) (omega (arith, node)) ∙ omega (arith, node));
    }

take-replicate : (k n x : ℕ) → k ≤ n → take k (replicate n x) ≡ replicate k x
take-replicate zero n x h = refl
take-replicate (suc k) zero x h = absurd (omega arith)
take-replicate (suc k) (suc n) x h = ap (λ (xs : List ℕ). x ∷ xs) (take-replicate k n x (le_of_suc-le-suc h))

-- A page with zeros for the nodes 0 to n has them,
cleared-zero : (n : ℕ) (page : List ℕ) (v : ℕ) → v ≤ n → get_or (cleared n page) v 0 ≡ 0
cleared-zero n page v b =
    sym (get_or-take (n + 1) (cleared n page) v 0 (omega arith)) ∙
    (ap (λ xs. get_or xs v 0) (take_at (replicate (n + 1) 0) (drop (n + 1) page) (n + 1) (length-replicate (n + 1) 0)) ∙
    all_replicate (λ x. x ≡ 0) 0 (n + 1) refl v)

-- and its order, which is behind them.
cleared-order : (n : ℕ) (page : List ℕ) (p : ℕ) → n ≤ most_nodes → node_at (cleared n page) p ≡ node_at page p
cleared-order n page p few =
    let m : ℕ = order_from + p - (n + 1) in
    let zeros : List ℕ = replicate (n + 1) 0 in
    let there : length zeros + m ≡ order_from + p = omega (arith, length-replicate {A = ℕ} (n + 1) 0) in
    let here : n + 1 + m ≡ order_from + p = omega arith in
    ap (λ i. get_or (cleared n page) i 0) (sym there) ∙
    (get_or-append-add zeros (drop (n + 1) page) m 0 ∙ (get_or-drop (n + 1) page m 0 ∙ ap (λ i. get_or page i 0) here))

-- The front is cleared first, and then the pages.
pub forgotten-all : {n : ℕ} {old mid new : List ℕ} → mid ≡ replicate pages_from 0 ++ drop pages_from old → PagesCleared n mid new → Forgotten n old new
forgotten-all {n} {old} {mid} {new} q C =
    let zeros : List ℕ = replicate pages_from 0 in
    let behind : drop pages_from mid ≡ drop pages_from old = ap (drop pages_from) q ∙ drop_at zeros (drop pages_from old) pages_from refl in
    record {
      front = C.front ∙ (ap (take pages_from) q ∙ take_at zeros (drop pages_from old) pages_from refl);
      pages = λ t b.
          C.pages t b ∙
          ap (λ xs. cleared n (take (page_from t + page_numbers - page_from t) xs)) (drop_more pages_from (page_from t) mid old (omega arith) behind);
    }

module _ {n : ℕ} {old new : List ℕ} (F : Forgotten n old new) where
  -- Then the bounds are zeros, and the first of them is noted.
  bounds-zero : (k : ℕ) → k ≤ most_commodities → part 0 k new ≡ replicate k 0
  bounds-zero k few =
      let whole : 0 + k - 0 ≡ k = omega arith in
      ap (λ i. take i new) whole ∙
      (sym (take-take k pages_from new (omega arith)) ∙ (ap (take k) F.front ∙ take-replicate k pages_from 0 (omega arith)))

  least_zero : least_in new ≡ 0
  least_zero =
      sym (get_or-take pages_from new least_at 0 (omega arith)) ∙
      (ap (λ xs. get_or xs least_at 0) F.front ∙ all_replicate (λ x. x ≡ 0) 0 pages_from refl least_at)

  -- So are the distances of all nodes, and the orders are as they were.
  module _ (few : n ≤ most_nodes) (t : ℕ) (within : t ≤ n) where
    distance-zero : (v : ℕ) → v ≤ n → get_or (distances_in t new) v 0 ≡ 0
    distance-zero v b =
        part_at (page_from t) distance_numbers new v (omega arith) ∙
        (sym (part_at (page_from t) page_numbers new v (omega arith)) ∙ (ap (λ xs. get_or xs v 0) (F.pages t within) ∙ cleared-zero n (page_in t old) v b))

    order-kept : (p : ℕ) → node_at (page_in t new) p ≡ node_at (page_in t old) p
    order-kept p = ap (λ xs. node_at xs p) (F.pages t within) ∙ cleared-order n (page_in t old) p few

-- Zeros are feasible whatever the lengths.
page-zero : {net : Network} {old new : List ℕ} → Ends net → net.nodes ≤ most_nodes → Forgotten net.nodes old new → (l : List ℕ) (t : ℕ) → Node net t →
    Ordered net (page_in t old) → Page net l new t
page-zero {net} ends few F l t at O =
    let zeros = distance-zero F few t at.1 in
    let kept = order-kept F few t at.1 in
    record {
      feasible = record { sink = zeros t at.1; arcs = λ u e w led. omega (arith, zeros u (leads-from net u e w led ends).1) };
      capped = λ v b. omega (arith, zeros v b);
      ordered =
          record {
            node = λ p b. omega (arith, kept p, O.node p b);
            found = λ v node. let (p, b, e) = O.found v node in (p, b, kept p ∙ e);
          };
    }

least-zeros : (k : ℕ) → 1 ≤ k → Least (replicate k 0) k 0
least-zeros k some =
    record {
      among = omega arith;
      least = λ j b. omega (arith, all_replicate (λ (x : ℕ). x ≡ 0) 0 k refl 0);
      lowest = λ j b. absurd (omega arith);
    }

-- So a memory in which only the orders are left is one by any lengths.
pub forgotten-memory : {s : Shape} {net : Network} {old new : List ℕ} → Ends net → net.nodes ≤ most_nodes → s.commodities ≤ most_commodities →
    s.commodities ≡ commodities net → 1 ≤ commodities net → memory_numbers ≤ length new → ((t : ℕ) → Node net t → Ordered net (page_in t old)) →
    Forgotten net.nodes old new → (l : List ℕ) → Memory s net l new
forgotten-memory {s} {net} {old} {new} ends few few-k each some places ordered F l =
    let zeros = bounds-zero F s.commodities few-k in
    rw (least_zero F) (record {
      places = places;
      below = rw zeros (below-zero net l each);
      least = rw zeros (rw (← each) (least-zeros s.commodities (omega arith)));
      pages = λ t at. page-zero ends few F l t at (ordered t at);
    })
