-- Every refusal has its own condition, and the fault stands at its place: the table of document 01, "Turned down", read from the refusal to the call.
-- Faults of arcs, nodes and commodities are looked for only once the counts are within bounds. Assumes nothing.
use mathlib.Core.Path.{◌≡◌, sym, refl, ◌∙◌}
use mathlib.Core.Bool.{true}
use mathlib.Core.Logic.{◌⊎◌, inl, inr}
use mathlib.Core.List.{List, ◌++◌}
use Prim.Native.Nat.{ℕ, suc, ◌+◌, ◌<◌}
use lib.Dec.{ltb}
use Rattle.bounds.specs.Bounds.{least_nodes, most_nodes, most_arcs, most_commodities, most_capacity, least_precision, most_precision}
use Rattle.network.specs.Network.{Network, arcs, commodities, tail, head, capacity, limit, source, sink}
use Rattle.network.specs.Resources.{resources}
use Rattle.network.specs.Sound.{Counts}
use Rattle.network.specs.Verdict.{Condition, verdict, outside, loose, size_conditions, arc_conditions, limit_conditions, commodity_conditions, item_conditions, verdict_on}
use Rattle.network.specs.declared.Refusal.{Refusal}
use Rattle.network.specs.declared.Refusal.TheVariants.{Nodes, Arcs, Commodities, Precision, LooseArc, Capacity, LooseCommodity, Limit, Resources}
use Rattle.network.specs.Refusal.{Verdict, Accepted, Refused}
use Rattle.network.proofs.Decided.{accepted-quiet, refusal-has}
use Rattle.network.proofs.Each.{none, more, each_append, each-flat}
use Rattle.network.proofs.First.{first-refuses, first-accepts}
use Rattle.network.proofs.Sizes.{sizes-kept}

-- A fault of the sizes: n nodes, m arcs, r resources, k commodities, or the precision.
pub data SizeFault (n m r k q : ℕ) : Refusal → Type 0 where
  of-nodes : outside least_nodes most_nodes n ≡ true → SizeFault n m r k q Nodes
  of-arcs : outside 1 most_arcs m ≡ true → SizeFault n m r k q Arcs
  of-resources : ltb most_arcs r ≡ true → SizeFault n m r k q Resources
  of-commodities : outside 1 most_commodities k ≡ true → SizeFault n m r k q Commodities
  of-precision : outside least_precision most_precision q ≡ true → SizeFault n m r k q Precision

-- A fault of an arc, a node or a commodity, at its number from 1.
pub data ItemFault (net : Network) : Refusal → Type 0 where
  of-ends : (e : ℕ) → e < arcs net → loose net.nodes (tail net e) (head net e) ≡ true → ItemFault net (LooseArc (e + 1))
  of-capacity : (e : ℕ) → e < arcs net → outside 1 most_capacity (capacity net e) ≡ true → ItemFault net (Capacity (e + 1))
  of-limit : (v : ℕ) → v < net.nodes → ltb most_capacity (limit net (suc v)) ≡ true → ItemFault net (Limit (v + 1))
  of-commodity : (i : ℕ) → i < commodities net → loose net.nodes (source net i) (sink net i) ≡ true → ItemFault net (LooseCommodity (i + 1))

pub size-refused : (n m r k q : ℕ) (w : Refusal) → verdict (size_conditions n m r k q) ≡ Refused w → SizeFault n m r k q w
unfolding size_conditions
size-refused n m r k q w h = refusal-has (SizeFault n m r k q) w (more of-nodes (more of-arcs (more of-resources (more of-commodities (more of-precision none))))) h

pub item_refused : (net : Network) (w : Refusal) → verdict (item_conditions net) ≡ Refused w → ItemFault net w
unfolding item_conditions arc_conditions limit_conditions commodity_conditions
item_refused net w h =
    refusal-has (ItemFault net) w
    (each_append
    (each-flat (arc_conditions net) (arcs net) (λ e l. more (of-ends e l) (more (of-capacity e l) none)))
    (each_append
    (each-flat (limit_conditions net) net.nodes (λ v l. more (of-limit v l) none))
    (each-flat (commodity_conditions net) (commodities net) (λ i l. more (of-commodity i l) none))))
    h

module _ (net : Network) (q : ℕ) (own : List Condition) (w : Refusal) where
  abbrev sizes : List Condition
  sizes = size_conditions net.nodes (arcs net) (resources net) (commodities net) q

  -- A fault of the sizes; or they are within bounds, and it is one of the call's own, or of an arc, a node or a commodity.
  abbrev pub Fault : Type 0
  Fault =
      SizeFault net.nodes (arcs net) (resources net) (commodities net) q w ⊎ Counts net.nodes (arcs net) (resources net) (commodities net) q ×
      (verdict own ≡ Refused w ⊎ ItemFault net w)

  by-own : (v : Verdict) → verdict own ≡ v → verdict (own ++ item_conditions net) ≡ Refused w → verdict own ≡ Refused w ⊎ ItemFault net w
  by-own Accepted e h = inr (item_refused net w (sym (first-accepts own (item_conditions net) e) ∙ h))
  by-own (Refused u) e h = inl (e ∙ sym (first-refuses own (item_conditions net) u e) ∙ h)

  by-sizes : (v : Verdict) → verdict sizes ≡ v → verdict (sizes ++ (own ++ item_conditions net)) ≡ Refused w → Fault
  by-sizes Accepted e h =
      inr (sizes-kept _ _ _ _ _ (accepted-quiet sizes e), by-own (verdict own) refl (sym (first-accepts sizes (own ++ item_conditions net) e) ∙ h))
  by-sizes (Refused u) e h = inl (size-refused _ _ _ _ _ w (e ∙ sym (first-refuses sizes (own ++ item_conditions net) u e) ∙ h))

  pub refused-fault : verdict_on net q own ≡ Refused w → Fault
  unfolding verdict_on
  refused-fault h = by-sizes (verdict sizes) refl h
