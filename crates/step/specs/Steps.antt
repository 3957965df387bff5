-- What one step of the run asks of its tables and numbers, and what it leaves.
use Rattle.std.specs.Prelude.{◌≡◌, false, List, ℕ, ◌^◌, ◌≤◌, ◌<◌, ℤ, length, take}
use Rattle.bounds.specs.Bounds.{most_arcs}
use Rattle.network.specs.Network.{Network}
use Rattle.network.specs.Path.{path_length}
use Rattle.network.specs.Resources.{resources, resource_capacities}
use Rattle.packed.specs.Packed.{net_in, Packed, table_numbers}
use Rattle.packed.specs.declared.Shape.{Shape}
use Rattle.method.specs.Choice.{Choice, used_by, choice_of}
use Rattle.method.specs.Iteration.{State, weight, draw, advance}
use Rattle.method.specs.declared.Selected.{Selected}
use Rattle.tables.specs.Calls.{Pushing, Adding, Ending}
use Rattle.lengths.specs.Calls.{Growing, Settling}
use Rattle.tables.specs.Tables.{longer, at_threshold}
use Rattle.step.specs.declared.Progress.{Progress}
use Rattle.step.specs.Progress.{state_in, halves}

-- What a step with the choice c asks of the method's state.
pub record Stepping (net : Network) (q : ℕ) (c : Choice) (a : ℕ) (s : State) : Type 0 where
  pub some-arc : 1 ≤ length (used_by net c)
  pub alpha : a ≡ path_length s.lengths (used_by net c)
  pub growing : Growing s.lengths (resource_capacities net) q (draw (resource_capacities net) (used_by net c)) (used_by net c)
  pub grown : Settling (resource_capacities net) (longer (resource_capacities net) q (draw (resource_capacities net) (used_by net c)) (used_by net c) s.lengths)
  pub flow : Pushing net c.commodity c.path (draw (resource_capacities net) (used_by net c)) s.flow
  pub loads : Adding s.loads (used_by net c) (draw (resource_capacities net) (used_by net c))
  pub total : s.total < 2 ^ 32
  pub count : s.count < 2 ^ 32

-- What it asks of the numbers beside the state: D of the lengths is at hand, and no load is at the threshold yet.
pub record Kept (net : Network) (threshold : ℕ) (s : State) (p : Progress) : Type 0 where
  pub weight : p.weight ≡ weight net s.lengths
  pub ending : Ending s.loads (resource_capacities net) threshold
  pub none : at_threshold threshold (resource_capacities net) s.loads ≡ false

-- The choice that was selected: the arcs of its path come first.
abbrev pub chosen_in : Selected → List ℕ → Choice
chosen_in c path = choice_of c.commodity (take c.arcs path)

-- All of it, of the slices that it is lent: the capacities of the resources, and what the path uses.
pub record Steppable (s : Shape) (q threshold : ℕ) (c : Selected) (net caps path : List ℕ) (flow : List ℤ) (tables : List ℕ) (p : Progress) : Type 0 where
  pub packed : Packed s net
  pub counted : s.resources ≡ resources (net_in s net)
  pub few : s.resources ≤ most_arcs
  pub places : table_numbers ≤ length tables
  pub caps-are : caps ≡ resource_capacities (net_in s net)
  pub arcs-first : c.arcs ≤ length path
  pub path-is : path ≡ used_by (net_in s net) (chosen_in c path)
  pub stepping : Stepping (net_in s net) q (chosen_in c path) c.alpha (state_in s flow tables p)
  pub kept : Kept (net_in s net) threshold (state_in s flow tables p) p

-- What it leaves: the method's next state; D of the new lengths, whether they were halved, and whether some new load is at the threshold.
pub record Stepped (net : Network) (q threshold : ℕ) (c : Choice) (old new : State) (r : Progress) : Type 0 where
  pub state : new ≡ advance net q c old
  pub weight : r.weight ≡ weight net new.lengths
  pub halved : r.halved ≡ halves (resource_capacities net) q (used_by net c) old.lengths
  pub ended : r.ended ≡ at_threshold threshold (resource_capacities net) new.loads
