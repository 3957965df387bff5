-- Each of a floor's parts ends within its slice. Assumes nothing.
use mathlib.Core.Path.{◌≡◌}
use mathlib.Core.List.{List}
use Prim.Native.Nat.{ℕ, ◌+◌, ◌≤◌}
use lib.ListN.{length}
use Rattle.site.specs.Turns.{parts_of}
use Rattle.site.specs.declared.parts.Parts.{Parts}
use Rattle.site.specs.declared.parts.Span.{Span}
use Rattle.site.proofs.Begins.{span-most}

abbrev Ends : Span → List ℕ → Type 0
Ends p s = p.from + p.size ≤ length s

pub record Fitting (p : Parts) (belts pairs limits flow lengths : List ℕ) : Type 0 where
  pub of-belts : Ends p.belts belts
  pub of-pairs : Ends p.pairs pairs
  pub of-limits : Ends p.limits limits
  pub of-flow : Ends p.flow flow
  pub of-lengths : Ends p.lengths lengths

pub fitting :
    (floors : List ℕ) (i : ℕ) (belts pairs limits flow lengths : List ℕ) {p : Parts} → p ≡ parts_of floors i belts pairs limits flow lengths →
    Fitting p belts pairs limits flow lengths
fitting floors i belts pairs limits flow lengths e =
    rw e
    (record {
      of-belts = span-most floors 2 i belts;
      of-pairs = span-most floors 3 i pairs;
      of-limits = span-most floors 4 i limits;
      of-flow = span-most floors 5 i flow;
      of-lengths = span-most floors 6 i lengths;
    })
