-- The choice from what the search found: nothing where no commodity is near, else the walk of the nearest.
-- Assumes nothing.
use mathlib.Core.Path.{◌≡◌, sym, ◌∙◌}
use mathlib.Core.List.{List}
use mathlib.Core.Option.{none}
use Prim.Native.Nat.{ℕ, ◌≤◌}
use native.Mathlib.Omega.{arith}
use lib.ListN.{get_or, take}
use Rattle.network.specs.Network.{Network, source, sink}
use Rattle.network.proofs.Paths.{path-some}
use Rattle.packed.specs.declared.Shape.{Shape}
use Rattle.paths.specs.Far.{far_length}
use Rattle.paths.specs.Visits.{Visits}
use Rattle.method.specs.Choice.{choice}
use Rattle.method.specs.declared.Selected.{Selected}
use Rattle.memory.specs.Memory.{bounds_in, least_in, distances_in, Memory}
use Rattle.choice.specs.Chose.{Picked}
use Rattle.choice.specs.Closest.{Closest}
use Rattle.choice.specs.Search.{Survey}
use Rattle.choice.proofs.Found.{closest-none, closest-choice}

-- What is selected: commodity i, r arcs, k resources, the length x.
abbrev pub selected : ℕ → ℕ → ℕ → ℕ → Selected
selected i r k x = record { commodity = i; arcs = r; used = k; alpha = x }

module _ {s : Shape} {net : Network} {l memory : List ℕ} (H : Survey net l) (M : Memory s net l memory) where
  abbrev i : ℕ
  i = least_in memory

  -- Where the nearest is far, nothing is chosen.
  pub selects-nothing : far_length ≤ get_or (bounds_in s memory) i 0 → choice net l ≡ none
  selects-nothing b = closest-none M.below M.least H.fit.ends H.few H.fit.small b

  -- Else its walk is, from its source u, and with what its nodes use behind them it is the choice; x is the least bound.
  pub selects_walk :
      {walked path : List ℕ} {r k x u : ℕ} → x ≡ get_or (bounds_in s memory) i 0 → u ≡ source net i →
      Closest net l (bounds_in s memory) (distances_in (sink net i) memory) i walked r → Visits net u r walked path k →
      Picked net l (selected i r k x) path
  selects_walk {walked} {path} {r} own from C visits =
      let ends = H.fit.ends in
      let found = closest-choice M.below M.least ends H.few C in
      let arc = path-some net (source net i) (sink net i) (take r walked) (ends.apart i M.least.among) C.arrived.leads-to in
      record {
        chosen = rw visits.path found.0;
        used = rw (visits.path, ← from) visits.used;
        alpha = rw (visits.used, from) (found.1 ∙ sym own);
        some-arc = omega (arith, arc, C.arrived.arcs);
        few-arcs = omega (arith, C.arrived.few, H.few);
        some_more = visits.low;
        few-used = visits.high;
      }
