-- The choice of an iteration: the commodity and the path. Document 01, "One choice of route", with the tie rule of request C-16.
use Rattle.std.specs.Prelude.{Bool, false, cond, List, [], ◌∷◌, map, ℕ, zero, suc, leb, eqb}
use Rattle.std.proofs.Math.Option.{Option, none, some}
use Rattle.arith.specs.Lists.{up_to, flat, keep}
use Rattle.network.specs.Network.{Network, arcs, commodities, source, sink}
use Rattle.network.specs.Path.{follow, path_length}
use Rattle.network.specs.Resources.{uses}

-- All lists of just k of the numbers below m, in dictionary order, the numbers compared as numbers.
unfoldable pub words : ℕ → ℕ → List (List ℕ)
words m zero = [] ∷ []
words m (suc k) = flat (λ e. map (λ p. e ∷ p) (words m k)) (up_to m)

-- The list of arcs ended at t.
unfoldable pub ends_at : ℕ → Option ℕ → Bool
ends_at t none = false
ends_at t (some w) = eqb w t

-- All paths from v to t of at most as many arcs as there are nodes: by their number of arcs, and those of as many arcs in dictionary order.
unfoldable pub paths : Network → ℕ → ℕ → List (List ℕ)
paths net v t = keep (λ p. ends_at t (follow net v p)) (flat (words (arcs net)) (up_to (suc net.nodes)))

-- A commodity and a path for it.
pub record Choice : Type 0 where
  pub commodity : ℕ
  pub path : List ℕ

-- What it uses: the arcs of its path, and the limited nodes on it.
abbrev pub used_by : Network → Choice → List ℕ
used_by net c = uses net (source net c.commodity) c.path

-- the choice of path p for commodity i
abbrev pub choice_of : ℕ → List ℕ → Choice
choice_of i p = record { commodity = i; path = p }

-- Commodity by commodity in order, all its paths in that order.
unfoldable pub candidates : Network → List Choice
candidates net = flat (λ i. map (choice_of i) (paths net (source net i) (sink net i))) (up_to (commodities net))

module _ {A : Type 0} where
  -- x, unless what came first of the rest is less by f
  unfoldable pub sooner : (A → ℕ) → A → Option A → A
  sooner f x none = x
  sooner f x (some y) = cond (leb (f x) (f y)) x y

  -- The first member of a list at which f is least.
  unfoldable pub least : (A → ℕ) → List A → Option A
  least f [] = none
  least f (x ∷ xs) = some (sooner f x (least f xs))

-- What is chosen by the lengths l: of all paths of all commodities the first of least length, so the lowest-numbered commodity that has
-- such a path, of its shortest paths those of fewest arcs, and of these the first in dictionary order; none where no commodity is joined.
unfoldable pub choice : Network → List ℕ → Option Choice
choice net l = least (λ c. path_length l (used_by net c)) (candidates net)
