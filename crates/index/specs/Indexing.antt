-- How an index is made: for one node after the other, the arcs in turn, by the column of their ends at these nodes and that of their other ends.
use Rattle.std.specs.Prelude.{◌≡◌, Bool, cond, List, ℕ, ◌+◌, ◌≤◌, ◌<◌, ltb, eqb, length, get_or, take, set}
use Rattle.std.specs.Prelude.{Option, MatchOption}
use Rattle.arith.specs.Sum.{sum}
use Rattle.bounds.specs.Bounds.{most_nodes, most_arcs}
use Rattle.network.specs.Ends.{Ends}
use Rattle.network.specs.Network.{Network}
use Rattle.network.specs.Resources.{resources}
use Rattle.packed.specs.Packed.{net_in, part, marks_from, Packed}
use Rattle.packed.specs.declared.Shape.{Shape}
use Rattle.index.specs.Index.{arcs_from, ends_from, places_from, most_places, index_numbers, begins, Index, Stations}

-- A packed network within the bounds, whose ends are nodes and whose resources are counted, and a slice with room for an index.
pub record Indexable (s : Shape) (xs : List ℕ) (size : ℕ) : Type 0 where
  pub packed : Packed s xs
  pub ends : Ends (net_in s xs)
  pub nodes : (net_in s xs).nodes ≤ most_nodes
  pub counted : s.resources ≡ resources (net_in s xs)
  pub numbers : index_numbers ≤ size

-- The resources of the nodes have come into an index; what stands before them is as it was.
pub record Located (net : Network) (old new : List ℕ) : Type 0 where
  pub places : Stations net new
  pub before : (i : ℕ) → i < places_from → get_or new i 0 ≡ get_or old i 0

-- A slice with room for the capacities of all resources, and no more.
pub record Roomy (s : Shape) (xs : List ℕ) (size : ℕ) : Type 0 where
  pub packed : Packed s xs
  pub counted : s.resources ≡ resources (net_in s xs)
  pub whole : size ≡ s.resources

-- The capacities of the arcs are there, and the limits come behind them.
pub record Limiting (s : Shape) (xs table : List ℕ) : Type 0 where
  pub roomy : Roomy s xs (length table)
  pub capacities : take s.arcs table ≡ (net_in s xs).capacities

-- The columns that an index is made by: the ends of the arcs here, their other ends there, and their marks.
pub record Side : Type 0 where
  pub here : List ℕ
  pub there : List ℕ
  pub marks : List ℕ

abbrev pub side : List ℕ → List ℕ → List ℕ → Side
side here there marks = record { here = here; there = there; marks = marks }

-- Those of a packed network, with the ends here and there in the columns that begin at these places.
abbrev pub sides : ℕ → ℕ → Shape → List ℕ → Side
sides here there s xs = side (part here s.arcs xs) (part there s.arcs xs) (part marks_from s.arcs xs)

-- A column of each for at most 256 arcs, whose ends are nodes.
pub record Columns (c : Side) : Type 0 where
  pub few : length c.here ≤ most_arcs
  pub others : length c.there ≡ length c.here
  pub marked : length c.marks ≡ length c.here
  pub ends : (e : ℕ) → e < length c.here → 1 ≤ get_or c.here e 0
  pub other-ends : (e : ℕ) → e < length c.here → 1 ≤ get_or c.there e 0

-- They are lent with room for the index of n nodes.
pub record Indexing (n : ℕ) (c : Side) (size : ℕ) : Type 0 where
  pub nodes : n ≤ most_nodes
  pub columns : Columns c
  pub numbers : index_numbers ≤ size

-- Arc e is at node v by its end here, and its other end w is there; or, if it is reversible, the other way round.
pub data Joining (c : Side) (v e w : ℕ) : Type 0 where
  forth : get_or c.here e 0 ≡ v → get_or c.there e 0 ≡ w → Joining c v e w
  back : (get_or c.marks e 0 ≡ 0 → ⊥) → get_or c.there e 0 ≡ v → get_or c.here e 0 ≡ w → Joining c v e w

pub record Joins (c : Side) (v e w : ℕ) : Type 0 where
  pub arc : e < length c.here
  pub way : Joining c v e w

-- Arc e is one of those in the columns.
pub record Seeing (c : Side) (e : ℕ) : Type 0 where
  pub columns : Columns c
  pub arc : e < length c.here

-- r is the other end of arc e, seen from node v, or None where it is not at v.
abbrev pub Seen : Side → ℕ → ℕ → Option ℕ → Type 0
Seen c v e r = MatchOption r ((w : ℕ) → Joining c v e w → ⊥) (λ w. Joining c v e w)

-- So it is, and where v is the last node it is one of the first arcs.
pub record Upto (c : Side) (last arcs v e w : ℕ) : Type 0 where
  pub joins : Joins c v e w
  pub first : v ≡ last → e < arcs

-- 1 where the test holds, else 0.
abbrev pub bit : Bool → ℕ
bit b = cond b 1 0

-- How many arcs have an end of this column at nodes before the last, and how many of the first arcs at the last.
unfoldable pub taken : List ℕ → ℕ → ℕ → ℕ
taken ends last arcs = sum (length ends) (λ e. bit (ltb (get_or ends e 0) last)) + sum arcs (λ e. bit (eqb (get_or ends e 0) last))

-- No more places are used than these, by either end.
abbrev pub used : Side → ℕ → ℕ → ℕ
used c last arcs = taken c.here last arcs + taken c.there last arcs

-- The index has the nodes up to the last, and of the last one the first arcs.
pub record Building (c : Side) (last arcs : ℕ) (ix : List ℕ) : Type 0 where
  pub index : Index (Upto c last arcs) last ix
  pub order : (v : ℕ) → v ≤ last + 1 → begins ix v ≤ begins ix (last + 1)
  pub few : begins ix (last + 1) ≤ used c last arcs

-- Node v is one of those of an index, and there is a place for one more arc.
pub record Putting (v : ℕ) (ix : List ℕ) : Type 0 where
  pub node : v ≤ most_nodes
  pub place : begins ix (v + 1) < most_places
  pub numbers : index_numbers ≤ length ix

-- Arc e with the other end w, put behind the last place of node v.
unfoldable pub placed : ℕ → ℕ → ℕ → List ℕ → List ℕ
placed v e w ix =
    set (set (set ix (arcs_from + begins ix (v + 1)) e) (ends_from + begins ix (v + 1)) w) (v + 1) (begins ix (v + 1) + 1)

-- Arc e is next.
pub record AddingArc (c : Side) (v e : ℕ) (ix : List ℕ) : Type 0 where
  pub building : Building c v e ix
  pub seeing : Seeing c e

-- The node after the last is next.
pub record Opening (c : Side) (last : ℕ) (ix : List ℕ) : Type 0 where
  pub building : Building c last (length c.here) ix
  pub columns : Columns c
  pub node : last < most_nodes
