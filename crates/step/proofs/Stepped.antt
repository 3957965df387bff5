-- The parts of a step put together are the method's own step. Assumes nothing.
use mathlib.Core.Path.{◌≡◌, refl, ◌∙◌}
use mathlib.Core.Bool.{Bool, cond}
use mathlib.Core.List.{List, map}
use Prim.Native.Nat.{ℕ, ◌+◌, ◌*◌}
use native.Mathlib.Numerals.{add-one}
use lib.Dec.{ltb}
use lib.IntN.{ℤ}
use lib.ListN.{length, get_or}
use Rattle.length.specs.Length.{growth, halving}
use Rattle.network.specs.Network.{Network, arcs, source}
use Rattle.network.specs.Path.{path_length}
use Rattle.network.specs.Resources.{resource_capacities}
use Rattle.network.proofs.Resources.{resource-capacities-length}
use Rattle.method.specs.Choice.{Choice, used_by}
use Rattle.method.specs.Iteration.{weight, draw, update, pushed, grown, settled, advance}
use Rattle.method.proofs.Times.{update-length}
use Rattle.lengths.specs.declared.Grown.{Grown}
use Rattle.tables.specs.Results.{Loaded}
use Rattle.lengths.specs.Results.{Lengthened}
use Rattle.tables.specs.Tables.{weight_of, longer, at_threshold}
use Rattle.step.specs.declared.Progress.{Progress}
use Rattle.step.specs.Progress.{state_of, counted, halves}
use Rattle.step.specs.Steps.{Stepped}

module _ (net : Network) (q t : ℕ) (c : Choice) (L : List ℕ) (F : List ℤ) (Y K : List ℕ) (p : Progress) (same : length L ≡ length (resource_capacities net)) where
  abbrev caps : List ℕ
  caps = resource_capacities net

  abbrev path : List ℕ
  path = used_by net c

  abbrev g : ℕ
  g = draw caps path

  abbrev G : List ℕ
  G = longer caps q g path L

  abbrev a : ℕ
  a = path_length L path

  abbrev better : Bool
  better = ltb (p.weight * p.alpha) (p.bound * a)

  -- the tables that a step leaves
  abbrev lengths : List ℕ
  lengths = cond (halves caps q path L) (map halving G) G

  abbrev flow : List ℤ
  flow = pushed net (c.commodity * arcs net) g (source net c.commodity) c.path F

  abbrev loads : List ℕ
  loads = update (λ e x. x + g) path Y

  module _ (h : p.weight ≡ weight net L) where
    advanced :
        (d : ℕ) (b e : Bool) →
        state_of lengths flow loads (cond better L K) (counted p g better a d b e) ≡ advance net q c (state_of L F Y K p)
    unfolding advance grown settled
    advanced d b e = rw (h, update-length (λ e x. growth q g (get_or caps e 0) x) path L ∙ (same ∙ resource-capacities-length net), add-one p.count) refl

    pub stepped :
        let r = counted p g better a (weight_of caps lengths) (halves caps q path L) (at_threshold t caps loads) in
        Stepped net q t c (state_of L F Y K p) (state_of lengths flow loads (cond better L K) r) r
    unfolding weight
    stepped =
        record {
          state = advanced (weight_of caps lengths) (halves caps q path L) (at_threshold t caps loads);
          weight = rw (resource-capacities-length net) refl;
          halved = refl;
          ended = refl;
        }

  -- The same from what each part leaves, of the tables as they were then.
  pub put-together :
      {caps' path' : List ℕ} {a g : ℕ} {better : Bool} {F' : List ℤ} {K' Y₀ Y' L₀ L' : List ℕ} {ended : Bool}
      {grown : Grown} {r : Progress} →
      caps' ≡ caps → path' ≡ path → p.weight ≡ weight net L → a ≡ path_length L path → g ≡ draw caps path →
      better ≡ ltb (p.weight * p.alpha) (p.bound * a) → K' ≡ cond better L K →
      F' ≡ pushed net (c.commodity * arcs net) g (source net c.commodity) c.path F → Y₀ ≡ Y →
      Loaded Y₀ caps' t path' g Y' ended → L₀ ≡ L → Lengthened L₀ caps' q g path' L' grown →
      r ≡ counted p g better a grown.weight grown.marked ended →
      Stepped net q t c (state_of L F Y K p) (state_of L' F' Y' K' r) r
  put-together ec ep h ea eg eb ek ef ey loaded el long er =
      rw (
        er,
        long.weight,
        long.lengths,
        long.marked,
        el,
        loaded.ended,
        loaded.loads,
        ey,
        ef,
        ek,
        eb,
        eg,
        ea,
        ec,
        ep,
      )
      (stepped h)
