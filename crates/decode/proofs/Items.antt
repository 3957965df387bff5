-- The network in a call's byte slices, number by number. Assumes nothing.
use mathlib.Core.Path.{◌≡◌, ap, ◌∙◌}
use mathlib.Core.List.{List}
use Prim.Native.Nat.{ℕ, ◌+◌, ◌*◌, ◌<◌}
use native.Mathlib.Nat.{add-zero}
use Rattle.network.specs.Network.{arcs, commodities, tail, head, source}
use Rattle.numbers.specs.Numbers.{items, number_at}
use Rattle.numbers.proofs.Columns.{length-column, get_or-column}
use Rattle.decode.specs.Decode.{network_in}

module _ (n : ℕ) (belts pairs limits : List ℕ) where
  pub arcs-in : arcs (network_in n belts pairs limits) ≡ items 4 belts
  unfolding network_in
  arcs-in = length-column belts 4 0 (items 4 belts)

  pub commodities-in : commodities (network_in n belts pairs limits) ≡ items 2 pairs
  unfolding network_in
  commodities-in = length-column pairs 2 0 (items 2 pairs)

  pub tail-in : (e : ℕ) → e < items 4 belts → tail (network_in n belts pairs limits) e ≡ number_at belts (4 * e)
  unfolding network_in
  tail-in e l = get_or-column belts 4 0 (items 4 belts) e l ∙ ap (number_at belts) (add-zero (4 * e))

  pub head_in : (e : ℕ) → e < items 4 belts → head (network_in n belts pairs limits) e ≡ number_at belts (4 * e + 1)
  unfolding network_in
  head_in e l = get_or-column belts 4 1 (items 4 belts) e l

  pub source_in : (i : ℕ) → i < items 2 pairs → source (network_in n belts pairs limits) i ≡ number_at pairs (2 * i)
  unfolding network_in
  source_in i l = get_or-column pairs 2 0 (items 2 pairs) i l ∙ ap (number_at pairs) (add-zero (2 * i))
