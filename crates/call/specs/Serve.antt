-- The conditions of a call before its items, and what serving it asks and leaves once they have passed.
use Rattle.std.specs.Prelude.{Bool, List, ◌++◌, ℕ}
use Rattle.network.specs.Network.{Network}
use Rattle.network.specs.Sound.{Counts}
use Rattle.network.specs.Verdict.{Condition, verdict, size_conditions, item_conditions}
use Rattle.packed.specs.declared.Shape.{Shape}
use Rattle.decode.specs.Calls.{Shaped}
use Rattle.call.specs.Deliver.{Open}
use Rattle.call.specs.Host.{Slices, host_conditions, Served}

-- 1 to 5, 11, 15 and 16, for n nodes, m arcs, r resources, k commodities and precision q: what is looked at before an item is read.
abbrev pub call_conditions : Bool → ℕ → ℕ → ℕ → ℕ → ℕ → ℕ → Slices → List Condition
call_conditions lacking n m r k q office s = size_conditions n m r k q ++ host_conditions lacking k m r office s

-- The shape is that of the bytes, within its bounds, and the tables have room for it.
pub record Sizable (s : Shape) (q : ℕ) (belts pairs limits : List ℕ) (t : Slices) : Type 0 where
  pub shaped : Shaped s.nodes belts pairs limits s
  pub counts : Counts s.nodes s.arcs s.resources s.commodities q
  pub open-for : Open s.commodities s.arcs s.resources t

-- The arcs, limits and commodities decide; the count is lent by itself.
abbrev pub Judged : Network → ℕ → Slices → Slices → ℕ → Type 0
Judged net q old new result = Served net q 1 (verdict (item_conditions net)) old new result
