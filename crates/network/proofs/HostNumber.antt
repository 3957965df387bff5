-- The number that a host call returns fits: the place of a refusal is at most 256, since items are looked at only within bounds. And it tells
-- whether the call was accepted, which a call that goes on from there asks.
-- Assumes nothing.
use mathlib.Core.Path.{◌≡◌, refl}
use Prim.Native.Nat.{ℕ, ◌≤◌, ◌<◌, ◌^◌}
use native.Mathlib.Omega.{arith}
use Rattle.network.specs.Network.{Network, arcs, commodities}
use Rattle.network.specs.Refusal.{refusal_code, host_number, Verdict, Accepted, Refused}
use Rattle.network.specs.Resources.{resources}
use Rattle.network.specs.Sound.{Within, Counts}
use Rattle.network.specs.Verdict.{verdict, size_conditions, item_conditions, afterwards}
use Rattle.network.specs.declared.Refusal.{Refusal}
use Rattle.network.specs.declared.Refusal.TheVariants.{Nodes, Arcs, Commodities, Precision, ShortTable, LooseArc, Capacity, LooseCommodity, Layout, LongFile, FullCount, Networks, Limit, Resources, Office}
use Rattle.network.proofs.Faults.{SizeFault, ItemFault, of-nodes, of-arcs, of-resources, of-commodities, of-precision, of-ends, of-capacity, of-limit, of-commodity, size-refused, item_refused}

-- numbers from 1 to 16, each its own case
numbered : (w : Refusal) → Within 1 16 (refusal_code w).number
numbered Nodes = record { least = omega arith; most = omega arith }
numbered Arcs = record { least = omega arith; most = omega arith }
numbered Commodities = record { least = omega arith; most = omega arith }
numbered Precision = record { least = omega arith; most = omega arith }
numbered ShortTable = record { least = omega arith; most = omega arith }
numbered (LooseArc p) = record { least = omega arith; most = omega arith }
numbered (Capacity p) = record { least = omega arith; most = omega arith }
numbered (LooseCommodity p) = record { least = omega arith; most = omega arith }
numbered (Layout p) = record { least = omega arith; most = omega arith }
numbered LongFile = record { least = omega arith; most = omega arith }
numbered FullCount = record { least = omega arith; most = omega arith }
numbered Networks = record { least = omega arith; most = omega arith }
numbered (Limit p) = record { least = omega arith; most = omega arith }
numbered Resources = record { least = omega arith; most = omega arith }
numbered Office = record { least = omega arith; most = omega arith }

-- For a refusal of a file too: 65,536 bytes are at most as many lines.
pub refusal-fits : (w : Refusal) → (refusal_code w).place ≤ 65536 → host_number (Refused w) < 2 ^ 64
refusal-fits w h = omega (arith, (numbered w).most)

-- Only what is accepted returns 0, and what returns another number leaves the tables as they were.
pub zero-accepted : (v : Verdict) → host_number v ≡ 0 → v ≡ Accepted
zero-accepted Accepted h = refl
zero-accepted (Refused w) h = absurd (omega (arith, (numbered w).least))

pub other-kept : {A : Type 0} (v : Verdict) (new old : A) → (host_number v ≡ 0 → ⊥) → afterwards v new old ≡ old
unfolding afterwards
other-kept Accepted new old h = absurd (h refl)
other-kept (Refused w) new old h = refl

-- A verdict whose refusals have places that small.
pub verdict-fits : (v : Verdict) → ((w : Refusal) → v ≡ Refused w → (refusal_code w).place ≤ 65536) → host_number v < 2 ^ 64
verdict-fits Accepted h = omega arith
verdict-fits (Refused w) h = refusal-fits w (h w refl)

size-place : {n m r k q : ℕ} {w : Refusal} → SizeFault n m r k q w → (refusal_code w).place ≤ 65536
size-place (of-nodes h) = omega arith
size-place (of-arcs h) = omega arith
size-place (of-resources h) = omega arith
size-place (of-commodities h) = omega arith
size-place (of-precision h) = omega arith

item-place : {net : Network} {q : ℕ} {w : Refusal} → Counts net.nodes (arcs net) (resources net) (commodities net) q → ItemFault net w → (refusal_code w).place ≤ 65536
item-place c (of-ends e l h) = omega arith
item-place c (of-capacity e l h) = omega arith
item-place c (of-limit v l h) = omega arith
item-place c (of-commodity i l h) = omega arith

pub sizes-fit : (n m r k q : ℕ) → host_number (verdict (size_conditions n m r k q)) < 2 ^ 64
sizes-fit n m r k q = verdict-fits _ (λ w h. size-place (size-refused n m r k q w h))

pub items-fit : (net : Network) (q : ℕ) → Counts net.nodes (arcs net) (resources net) (commodities net) q → host_number (verdict (item_conditions net)) < 2 ^ 64
items-fit net q c = verdict-fits _ (λ w h. item-place c (item_refused net w h))
