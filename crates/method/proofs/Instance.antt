-- An iteration of the method is an iteration of the packing program whose resources are the network's and whose columns are what paths use.
-- Assumes nothing.
use mathlib.Core.Path.{◌≡◌, refl, sym, ap, ◌∙◌}
use mathlib.Core.Bool.{Bool, true, false, cond}
use mathlib.Core.List.{List, [], ◌∷◌, map}
use Prim.Native.Nat.{ℕ, zero, suc, ◌+◌, ◌*◌, ◌≤◌, ◌<◌}
use native.Mathlib.Nat.{mul-pos}
use native.Mathlib.Omega.{arith}
use borrow.Author.Tests.{eqb-true, leb-true, leb-false, ltb-true, ltb-false}
use lib.Dec.{eqb, leb, ltb}
use lib.ListN.{length, get_or, get_or-map}
use Rattle.arith.specs.Ceiling.{ceil}
use Rattle.arith.specs.Lists.{exists}
use Rattle.arith.specs.Sum.{sum}
use Rattle.arith.proofs.Ceilings.{ceil-zero}
use Rattle.arith.proofs.Exists.{exists-true, exists-false}
use Rattle.arith.proofs.Sums.{sum-cong, sum-scale}
use Rattle.length.specs.Length.{mark, growth, halving}
use Rattle.network.specs.Network.{Network}
use Rattle.network.specs.Path.{path_length}
use Rattle.network.specs.Resources.{resources, resource_capacities, resource_capacity}
use Rattle.packing.proofs.Run as packing
use Rattle.method.specs.Choice.{Choice, used_by}
use Rattle.method.specs.Iteration.{State, weight, draw, update, grown, settled, advance}
use Rattle.method.proofs.Changed.{update_other, update-once}
use Rattle.method.proofs.Draws.{At, draw-within}
use Rattle.arith.specs.Times.{times}
use Rattle.method.proofs.Times.{Below, also, along, sum-times, update-adds}

-- The state as the packing program sees it.
unfoldable pub seen : State → packing.State
seen s =
    record {
      length = λ e. get_or s.lengths e 0;
      load = λ e. get_or s.loads e 0;
      total = s.total;
      count = s.count;
      bound = s.bound;
      alpha = s.alpha;
    }

-- The length of a path is the sum along it.
path-along : (l p : List ℕ) → path_length l p ≡ along (λ e. get_or l e 0) p
unfolding path_length along
path-along l [] = refl
path-along l (e ∷ p) = ap (λ t. get_or l e 0 + t) (path-along l p)

-- The lengths after growth: a draw of g as often as the resource is used, which is at most once.
none : (x g : ℕ) → x * (0 * g) ≡ 0
none x g = omega arith

one : (x g : ℕ) → x * g ≡ x * (1 * g)
one x g = omega arith

grown-at :
    (net : Network) (q g : ℕ) (p l : List ℕ) (e : ℕ) → e < length l → times e p ≤ 1 → 0 < q * resource_capacity net e →
    get_or (grown net q g p l) e 0 ≡ get_or l e 0 + ceil (get_or l e 0 * (times e p * g)) (q * resource_capacity net e)
unfolding grown growth
grown-at net q g p l e b d pos = go (times e p) refl d
  where
    x : ℕ
    x = get_or l e 0

    go : (n : ℕ) → times e p ≡ n → n ≤ 1 → get_or (update (λ e x. growth q g (resource_capacity net e) x) p l) e 0 ≡ x + ceil (x * (n * g)) (q * resource_capacity net e)
    go zero h k =
        update_other (λ e x. growth q g (resource_capacity net e) x) p l e h ∙
        omega (arith, ceil-zero (q * resource_capacity net e) pos, ap (λ t. ceil t (q * resource_capacity net e)) (none x g))
    go (suc zero) h k =
        update-once (λ e x. growth q g (resource_capacity net e) x) p l e b h ∙ ap (λ t. x + ceil t (q * resource_capacity net e)) (one x g)
    go (suc (suc n)) h k = absurd (omega arith)

-- A member of a list of resources is one.
member_below : (m : ℕ) (p : List ℕ) (e : ℕ) → Below m p → 0 < times e p → e < m
unfolding times
member_below m [] e b h = absurd (omega arith)
member_below m (x ∷ p) e (also l b) h = go (eqb x e) refl h (member_below m p e b)
  where
    go : (t : Bool) → eqb x e ≡ t → 0 < cond t 1 0 + times e p → (0 < times e p → e < m) → e < m
    go true q h rest = rw (← (eqb-true x e q)) l
    go false q h rest = rest (omega arith)

-- A draw once or not at all.
drawn-within : (n g c : ℕ) → n ≤ 1 → (0 < n → g ≤ c) → n * g ≤ c
drawn-within zero g c h k = omega arith
drawn-within (suc zero) g c h k = omega (arith, k (omega arith))
drawn-within (suc (suc n)) g c h k = absurd (omega arith)

drawn-whole : (n g : ℕ) → n ≤ 1 → 0 < n → n * g ≡ g
drawn-whole zero g h k = absurd (omega arith)
drawn-whole (suc zero) g h k = omega arith
drawn-whole (suc (suc n)) g h k = absurd (omega arith)

halved-at : (l : List ℕ) (e : ℕ) → get_or (map halving l) e 0 ≡ ceil (get_or l e 0) 2
unfolding halving ceil
halved-at l e = get_or-map halving l e 0

-- What the argument asks of an iteration: what the path uses are resources, each once; capacities and tables as they should be.
pub record Fair (net : Network) (q : ℕ) (p : List ℕ) (s : State) : Type 0 where
  pub coarse : 1 ≤ q
  pub positive : (e : ℕ) → e < resources net → 1 ≤ resource_capacity net e
  pub below : Below (resources net) p
  pub once : (e : ℕ) → times e p ≤ 1
  pub whole : At (resource_capacities net) p (draw (resource_capacities net) p)
  pub lengths : length s.lengths ≡ resources net
  pub loads : length s.loads ≡ resources net

module _ (net : Network) (q : ℕ) (c : Choice) (s : State) (fair : Fair net q (used_by net c) s) where
  abbrev m : ℕ
  m = resources net

  abbrev g : ℕ
  g = draw (resource_capacities net) (used_by net c)

  -- The draw on each resource.
  abbrev y : ℕ → ℕ
  y e = times e (used_by net c) * g

  abbrev l : ℕ → ℕ
  l e = get_or s.lengths e 0

  pub column : packing.Column m (resource_capacity net) l y g (path_length s.lengths (used_by net c))
  column =
      record {
        within = λ e b. drawn-within (times e (used_by net c)) g (resource_capacity net e) (fair.once e) (draw-within (resource_capacities net) (used_by net c) e);
        size =
            sum-cong m (λ e. y e * l e) (λ e. g * (times e (used_by net c) * l e)) (λ e b. omega arith) ∙
            (sum-scale m g (λ e. times e (used_by net c) * l e) ∙
            ap (λ t. g * t) (sum-times m l (used_by net c) fair.below ∙ sym (path-along s.lengths (used_by net c))));
        narrow = fair.whole.arc;
        inside = member_below m (used_by net c) fair.whole.arc fair.below fair.whole.member;
        used = drawn-whole (times fair.whole.arc (used_by net c)) g (fair.once fair.whole.arc) fair.whole.member;
        full = fair.whole.whole;
      }

  -- The grown lengths, as the program has them.
  abbrev after : List ℕ
  after = grown net q g (used_by net c) s.lengths

  pub after-at : (e : ℕ) → e < m → get_or after e 0 ≡ packing.grown q (resource_capacity net) l y e
  after-at e b =
      grown-at net q g (used_by net c) s.lengths e (rw fair.lengths b) (fair.once e)
      (mul-pos fair.coarse (fair.positive e b))

  lengths : packing.Lengths m (packing.grown q (resource_capacity net) l y) (λ e. get_or (settled net after) e 0)
  unfolding settled halving mark
  lengths = go (exists m (λ e. leb mark (get_or after e 0))) refl
    where
      go : (t : Bool) → exists m (λ e. leb mark (get_or after e 0)) ≡ t →
          packing.Lengths m (packing.grown q (resource_capacity net) l y) (λ e. get_or (cond t (map halving after) after) e 0)
      go true h =
          let w = exists-true m (λ e. leb mark (get_or after e 0)) h in
          packing.Lengths.halved w.0 w.1 (rw (after-at w.0 w.1) at (leb-true mark (get_or after w.0 0) w.2))
          (λ e b. halved-at after e ∙ ap (λ t. ceil t 2) (after-at e b))
      go false h =
          packing.Lengths.kept
          (λ e b. rw (after-at e b) at (leb-false mark (get_or after e 0) (exists-false m (λ e. leb mark (get_or after e 0)) h e b)))
          (λ e b. after-at e b)

  least :
      packing.Least (packing.volume m (resource_capacity net) l) (path_length s.lengths (used_by net c)) s.bound s.alpha (advance net q c s).bound
      (advance net q c s).alpha
  unfolding advance weight
  least = go (ltb (D * s.alpha) (s.bound * a)) refl
    where
      D : ℕ
      D = sum m (λ e. resource_capacity net e * get_or s.lengths e 0)

      a : ℕ
      a = path_length s.lengths (used_by net c)

      go : (t : Bool) → ltb (D * s.alpha) (s.bound * a) ≡ t → packing.Least D a s.bound s.alpha (cond t D s.bound) (cond t a s.alpha)
      go true h = packing.Least.smaller (ltb-true (D * s.alpha) (s.bound * a) h) refl refl
      go false h = packing.Least.held (ltb-false (D * s.alpha) (s.bound * a) h) refl refl

  -- The iteration.
  pub iterated : packing.Iteration m q (resource_capacity net) (seen s) (seen (advance net q c s))
  unfolding seen advance
  iterated =
      record {
        draw = y;
        amount = g;
        size = path_length s.lengths (used_by net c);
        column = column;
        lengths = lengths;
        load = λ e b. update-adds g (used_by net c) s.loads e (rw fair.loads fair.below);
        total = refl;
        count = refl;
        least = least;
      }
