-- What taking the floors in turn asks and leaves. No contract of a call rests on it.
use Rattle.std.specs.Prelude.{◌≡◌, List, ℕ, ◌*◌, ◌≤◌, ◌<◌}
use Rattle.bounds.specs.Sites.{most_networks, floor_numbers}
use Rattle.network.specs.Refusal.{Accepted}
use Rattle.numbers.specs.Numbers.{count, items}
use Rattle.method.specs.Answer.{outcome}
use Rattle.method.specs.Guarantee.{Guarantee}
use Rattle.call.specs.Host.{Slices}
use Rattle.site.specs.Parts.{begins, numbers_in}
use Rattle.site.specs.Site.{Site, network_of, precision_of, verdict_of, floor_sent, sent}
use Rattle.site.specs.declared.parts.Parts.{Parts}
use Rattle.site.specs.declared.parts.Span.{Span}

abbrev pub site : ℕ → List ℕ → List ℕ → List ℕ → List ℕ → Site
site office floors belts pairs limits = record { office = office; floors = floors; belts = belts; pairs = pairs; limits = limits }

-- Where floor i's part of a slice is, in bytes, and of each slice.
abbrev pub span_of : List ℕ → ℕ → ℕ → ℕ → Span
span_of floors j room i = record { from = 8 * begins floors j room i; size = 8 * numbers_in floors j room i }

abbrev pub parts_of : List ℕ → ℕ → List ℕ → List ℕ → List ℕ → List ℕ → List ℕ → Parts
parts_of floors i belts pairs limits flow lengths =
    record {
      belts = span_of floors 2 (count belts) i;
      pairs = span_of floors 3 (count pairs) i;
      limits = span_of floors 4 (count limits) i;
      flow = span_of floors 5 (count flow) i;
      lengths = span_of floors 6 (count lengths) i;
    }

-- Neither 13 nor 5.
pub record Listed (floors answers : List ℕ) : Type 0 where
  pub few : items floor_numbers floors ≤ most_networks
  pub room : 8 * items floor_numbers floors ≤ count answers

-- All that holds of the outcome of floor i if its own call accepts it, the slices being s before that.
abbrev pub Guaranteed : Site → ℕ → Slices → Type 0
Guaranteed t i s = verdict_of t i s ≡ Accepted → Guarantee (network_of t i) (precision_of t i) (outcome (network_of t i) (precision_of t i))

-- Floor i alone, and the first k floors.
pub record FloorServed (t : Site) (i : ℕ) (old new : Slices) : Type 0 where
  pub left : new ≡ floor_sent t i old
  pub guarantee : Guaranteed t i old

pub record FloorsServed (t : Site) (k : ℕ) (old new : Slices) : Type 0 where
  pub left : new ≡ sent t old k
  pub guarantee : (i : ℕ) → i < k → Guaranteed t i (sent t old i)
