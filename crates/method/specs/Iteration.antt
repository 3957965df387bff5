-- One iteration of the method. Document 01, "One choice of route"; its word for an iteration is a choice.
use Rattle.std.specs.Prelude.{cond, List, [], ◌∷◌, map, ℕ, suc, ◌+◌, ◌*◌, min, leb, ltb, ℤ, pos, get_or, set, replicate}
use Rattle.std.proofs.Math.Option.{none, some}
use Rattle.arith.specs.Lists.{exists}
use Rattle.arith.specs.Sum.{sum}
use Rattle.length.specs.Length.{mark, start, growth, halving}
use Rattle.network.specs.Network.{Network, arcs, commodities, source}
use Rattle.network.specs.Path.{forward, beyond, path_length}
use Rattle.network.specs.Resources.{resources, resource_capacities, resource_capacity}
use Rattle.signed.specs.Signed.{moved}
use Rattle.method.specs.Choice.{Choice, used_by, choice}

-- What the method keeps: the lengths of the resources; the flow, m amounts for each commodity in turn; the load of each resource, all that was drawn
-- over it; the drawn total F; the count of iterations; and of the least D over alpha so far D, alpha, the iteration that gave it, from 1, and the lengths of that iteration.
pub record State : Type 0 where
  pub lengths : List ℕ
  pub flow : List ℤ
  pub loads : List ℕ
  pub total : ℕ
  pub count : ℕ
  pub bound : ℕ
  pub alpha : ℕ
  pub best : ℕ
  pub best_lengths : List ℕ

-- The start. The least fraction so far is 1 over 0, which every D over alpha is below.
unfoldable pub initial : Network → State
initial net =
    record {
      lengths = map start (resource_capacities net);
      flow = replicate (commodities net * arcs net) (pos 0);
      loads = replicate (resources net) 0;
      total = 0;
      count = 0;
      bound = 1;
      alpha = 0;
      best = 0;
      best_lengths = replicate (resources net) 0;
    }

-- D, the sum over all resources of capacity times length.
unfoldable pub weight : Network → List ℕ → ℕ
weight net l = sum (resources net) (λ e. resource_capacity net e * get_or l e 0)

-- The draw g: the least capacity of what the path uses.
unfoldable pub draw : List ℕ → List ℕ → ℕ
draw capacities [] = 0
draw capacities (e ∷ []) = get_or capacities e 0
draw capacities (e ∷ (d ∷ p)) = min (get_or capacities e 0) (draw capacities (d ∷ p))

-- The list xs with x replaced by f e x at each place e of a list in turn.
unfoldable pub update : (ℕ → ℕ → ℕ) → List ℕ → List ℕ → List ℕ
update f [] xs = xs
update f (e ∷ p) xs = update f p (set xs e (f e (get_or xs e 0)))

-- The flow after g was drawn at node v over arc e, in the row that begins at base,
abbrev pub crossed : Network → ℕ → ℕ → ℕ → ℕ → List ℤ → List ℤ
crossed net base g v e flow = set flow (base + e) (moved (forward net v e) g (get_or flow (base + e) (pos 0)))

-- and over all arcs of a path from v on.
unfoldable pub pushed : Network → ℕ → ℕ → ℕ → List ℕ → List ℤ → List ℤ
pushed net base g v [] flow = flow
pushed net base g v (e ∷ p) flow = pushed net base g (beyond net v e) p (crossed net base g v e flow)

-- The lengths with those of what the path uses grown.
unfoldable pub grown : Network → ℕ → ℕ → List ℕ → List ℕ → List ℕ
grown net q g p l = update (λ e x. growth q g (resource_capacity net e) x) p l

-- Every length halved once if some length is at the mark.
unfoldable pub settled : Network → List ℕ → List ℕ
settled net l = cond (exists (resources net) (λ e. leb mark (get_or l e 0))) (map halving l) l

-- The state after an iteration that chose c. A smaller D over alpha replaces the least so far, an equal one does not.
unfoldable pub advance : Network → ℕ → Choice → State → State
advance net q c s =
    let u = used_by net c in
    let g = draw (resource_capacities net) u in
    let a = path_length s.lengths u in
    let d = weight net s.lengths in
    let better = ltb (d * s.alpha) (s.bound * a) in
    record {
      lengths = settled net (grown net q g u s.lengths);
      flow = pushed net (c.commodity * arcs net) g (source net c.commodity) c.path s.flow;
      loads = update (λ e x. x + g) u s.loads;
      total = s.total + g;
      count = suc s.count;
      bound = cond better d s.bound;
      alpha = cond better a s.alpha;
      best = cond better (suc s.count) s.best;
      best_lengths = cond better s.lengths s.best_lengths;
    }

-- One iteration; nothing changes where no commodity is joined.
unfoldable pub iteration : Network → ℕ → State → State
iteration net q s = elim (choice net s.lengths) [ none ↦ s | some c ↦ advance net q c s ]
