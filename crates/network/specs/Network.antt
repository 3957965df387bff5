-- A network and its commodities.
-- Words: document 01's station, belt and pair are here node, arc and commodity. Nodes are numbered from 1 as there; arcs and commodities are
-- counted from 0 here, so document 01's belt number is the arc's place plus 1.
use Rattle.std.specs.Prelude.{Bool, not, List, ◌∷◌, ℕ, eqb, length, get_or}

-- Document 01, "The floor and its flow": arc e leads from tail e to head e; commodity i goes from source i to sink i. Request C-12: where its mark
-- is not zero, an arc may be taken either way. Request C-17: a node may have a limit, one number for each node; 0, or none there, is no limit.
pub record Network : Type 0 where
  pub nodes : ℕ
  pub tails : List ℕ
  pub heads : List ℕ
  pub capacities : List ℕ
  pub marks : List ℕ
  pub limits : List ℕ
  pub sources : List ℕ
  pub sinks : List ℕ

-- m, the number of arcs
abbrev pub arcs : Network → ℕ
arcs net = length net.tails

-- k, the number of commodities
abbrev pub commodities : Network → ℕ
commodities net = length net.sources

-- where arc e starts
abbrev pub tail : Network → ℕ → ℕ
tail net e = get_or net.tails e 0

-- where it ends
abbrev pub head : Network → ℕ → ℕ
head net e = get_or net.heads e 0

-- what it can carry, in totes an hour
abbrev pub capacity : Network → ℕ → ℕ
capacity net e = get_or net.capacities e 0

-- whether it is reversible: by any mark but 0
abbrev pub reversible : Network → ℕ → Bool
reversible net e = not (eqb (get_or net.marks e 0) 0)

-- what node v lets through, in totes an hour; 0 if it has no limit. Nodes count from 1, so a 0 for no node stands in front.
abbrev pub limit : Network → ℕ → ℕ
limit net v = get_or (0 ∷ net.limits) v 0

-- whether it has one
abbrev pub limited : Network → ℕ → Bool
limited net v = not (eqb (limit net v) 0)

-- where commodity i comes from
abbrev pub source : Network → ℕ → ℕ
source net i = get_or net.sources i 0

-- where it goes
abbrev pub sink : Network → ℕ → ℕ
sink net i = get_or net.sinks i 0
