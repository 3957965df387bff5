-- A call's shape: the slice with its arcs takes its pairs and limits, and is then its network. Assumes nothing.
use mathlib.Core.Path.{◌≡◌, refl, sym, ap, ◌∙◌}
use mathlib.Core.List.{List}
use Prim.Native.Nat.{ℕ, ◌≤◌}
use native.Mathlib.Omega.{arith}
use lib.IntN.{ℤ}
use lib.ListN.{length, take}
use Rattle.network.specs.Network.{Network}
use Rattle.network.specs.Resources.{resources}
use Rattle.network.specs.Sound.{Counts}
use Rattle.packed.specs.Packed.{Packed, net_numbers, tails_from}
use Rattle.packed.specs.declared.Shape.{Shape}
use Rattle.packed.proofs.Columns.{part_length}
use Rattle.records.specs.Parts.{resources_of, shape_of, network_copied, Checking, Completing, Roomy, SizesPassed}
use Rattle.records.proofs.Resourced.{limits-taken, lent-resources}

-- A call that has passed may be checked.
pub checking : {n q m : ℕ} {pairs limits : List ℕ} {flow : List ℤ} {lengths : List ℕ} → SizesPassed n q m pairs limits flow lengths → Checking n m pairs
checking p = let c = p.counts in record { few-nodes = c.of-nodes.most; few-arcs = c.of-arcs.most; few-pairs = c.of-commodities.most }

module _ {n m : ℕ} (pairs limits : List ℕ) {s : Shape} (e : s ≡ shape_of n m (length pairs) limits) where
  pub packs : Checking n m pairs → (xs : List ℕ) → net_numbers ≤ length xs → Packed s xs
  packs c xs h =
      rw e
      (record { few-nodes = c.few-nodes; few-limits = omega arith; few-arcs = c.few-arcs; few-commodities = c.few-pairs; places = h })

  pub completing : Checking n m pairs → (xs : List ℕ) → net_numbers ≤ length xs → Completing s pairs limits xs
  completing c xs h =
      record {
        pairing = record { packed = packs c xs h; each = ap (λ (s : Shape). s.commodities) e };
        enough = rw e (omega arith);
      }

  -- the network that it then is
  pub copied_is : (xs : List ℕ) → network_copied s.nodes s.arcs xs pairs (take s.limits limits) ≡ network_copied n m xs pairs (take n limits)
  copied_is xs =
      ap (λ (s : Shape). network_copied s.nodes s.arcs xs pairs (take s.limits limits)) e ∙
      ap (λ (ls : List ℕ). network_copied n m xs pairs ls) (limits-taken n limits)

  pub counted :
      (xs : List ℕ) → m ≤ 256 → net_numbers ≤ length xs → {net : Network} → net ≡ network_copied n m xs pairs (take n limits) → s.resources ≡ resources net
  counted xs few h {net} f =
      ap (λ (s : Shape). s.resources) e ∙
      (sym
      (lent-resources (network_copied n m xs pairs (take n limits)) limits refl ∙
      ap (λ k. resources_of n k limits) (part_length tails_from m xs (omega (arith, few, h)))) ∙
      ap resources (sym f))

  -- its counts and its room
  module _ {q : ℕ} {flow : List ℤ} {lengths : List ℕ} (p : SizesPassed n q m pairs limits flow lengths) where
    pub shape-counts : Counts s.nodes s.arcs s.resources s.commodities q
    shape-counts = rw e p.counts

    pub shape-room : Roomy s.commodities s.arcs s.resources flow lengths
    shape-room = rw e p.room
