-- When a call is turned down: the conditions of document 01's table, "Turned down", in its order, and the first that holds.
use Rattle.std.specs.Prelude.{Bool, cond, ◌||◌, List, [], ◌∷◌, ◌++◌, ℕ, suc, ◌+◌, ltb, eqb}
use Rattle.arith.specs.Lists.{up_to, flat}
use Rattle.bounds.specs.Bounds.{least_nodes, most_nodes, most_arcs, most_commodities, most_capacity, least_precision, most_precision}
use Rattle.network.specs.Network.{Network, arcs, commodities, tail, head, capacity, limit, source, sink}
use Rattle.network.specs.Resources.{resources}
use Rattle.network.specs.declared.Refusal.{Refusal}
use Rattle.network.specs.declared.Refusal.TheVariants.{Nodes, Arcs, Commodities, Precision, LooseArc, Capacity, LooseCommodity, Limit, Resources}
use Rattle.network.specs.Refusal.{Verdict, Accepted, Refused}

-- A condition of the table, and the refusal with its place
pub record Condition : Type 0 where
  pub holds : Bool
  pub refusal : Refusal

-- turned down with r when b
abbrev pub when : Bool → Refusal → Condition
when b r = record { holds = b; refusal = r }

-- The first condition that holds decides; where none does, the call is accepted.
unfoldable pub verdict : List Condition → Verdict
verdict [] = Accepted
verdict (c ∷ cs) = cond c.holds (Refused c.refusal) (verdict cs)

-- x is not one of lo, .., hi
unfoldable pub outside : ℕ → ℕ → ℕ → Bool
outside lo hi x = ltb x lo || ltb hi x

-- an end outside 1 to n, or both ends equal
unfoldable pub loose : ℕ → ℕ → ℕ → Bool
loose n a b = outside 1 n a || outside 1 n b || eqb a b

-- 1, 2, 15, 3 and 4, for n nodes, m arcs, r resources, k commodities and precision q
unfoldable pub size_conditions : ℕ → ℕ → ℕ → ℕ → ℕ → List Condition
size_conditions n m r k q =
    when (outside least_nodes most_nodes n) Nodes ∷
    when (outside 1 most_arcs m) Arcs ∷
    when (ltb most_arcs r) Resources ∷
    when (outside 1 most_commodities k) Commodities ∷
    when (outside least_precision most_precision q) Precision ∷
    []

-- 6 and 7 of arc e, whose place is its number from 1
unfoldable pub arc_conditions : Network → ℕ → List Condition
arc_conditions net e =
    when (loose net.nodes (tail net e) (head net e)) (LooseArc (e + 1)) ∷
    when (outside 1 most_capacity (capacity net e)) (Capacity (e + 1)) ∷
    []

-- 14 of the node after v
unfoldable pub limit_conditions : Network → ℕ → List Condition
limit_conditions net v = when (ltb most_capacity (limit net (suc v))) (Limit (v + 1)) ∷ []

-- 8 of commodity i
unfoldable pub commodity_conditions : Network → ℕ → List Condition
commodity_conditions net i = when (loose net.nodes (source net i) (sink net i)) (LooseCommodity (i + 1)) ∷ []

-- 6, 7, 14 and 8 of a whole network: arcs in turn, then nodes in turn, then commodities in turn
unfoldable pub item_conditions : Network → List Condition
item_conditions net =
    flat (arc_conditions net) (up_to (arcs net)) ++
    (flat (limit_conditions net) (up_to net.nodes) ++ flat (commodity_conditions net) (up_to (commodities net)))

-- The verdict on a call with this network at precision q. Between sizes and items stand the conditions that concern some calls only, 5, 16 and 11:
-- the call says which.
unfoldable pub verdict_on : Network → ℕ → List Condition → Verdict
verdict_on net q own = verdict (size_conditions net.nodes (arcs net) (resources net) (commodities net) q ++ (own ++ item_conditions net))

-- What a call leaves of a table: the new one where it is accepted, the old one where it is refused.
unfoldable pub afterwards : {A : Type 0} → Verdict → A → A → A
afterwards Accepted new old = new
afterwards (Refused r) new old = old
