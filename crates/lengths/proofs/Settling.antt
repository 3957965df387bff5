-- Growth and halving put together. Assumes nothing.
use mathlib.Core.Path.{ap, ◌∙◌}
use mathlib.Core.Bool.{cond}
use mathlib.Core.List.{List, map}
use Prim.Native.Nat.{ℕ}
use Rattle.length.specs.Length.{halving}
use Rattle.lengths.specs.Calls.{Settling, Lengthening}
use Rattle.lengths.specs.Results.{Weighed, Grew, Lengthened}
use Rattle.tables.specs.Tables.{at_mark}
use Rattle.lengths.specs.declared.Grown.{Grown}

module _ {old caps : List ℕ} {q g : ℕ} {path new : List ℕ} {r : Grown} (grew : Grew old caps q g path new r) where
  pub grown-settling : {d : ℕ} → Lengthening old caps q g path d → Settling caps new
  grown-settling p = rw grew.lengths p.grown

  pub lengthened :
      {last : List ℕ} {d : ℕ} → Weighed (cond r.marked (map halving new) new) caps last d →
      Lengthened old caps q g path last (record { weight = d; marked = r.marked })
  lengthened settled =
      record {
        marked = grew.marked ∙ ap at_mark grew.lengths;
        lengths = settled.lengths ∙ ap (λ (l : List ℕ). cond r.marked (map halving l) l) grew.lengths;
        weight = settled.weight;
      }
