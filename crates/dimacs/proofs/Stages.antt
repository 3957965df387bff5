-- What a p line opens, and what the program holds between two lines.
-- Assumes nothing.
use mathlib.Core.Path.{◌≡◌}
use mathlib.Core.Bool.{true, false}
use mathlib.Core.List.{List}
use Prim.Native.Nat.{ℕ}
use Rattle.bounds.specs.Bounds.{least_nodes, most_nodes, most_arcs}
use Rattle.network.specs.Verdict.{outside}
use Rattle.network.specs.declared.Refusal.{Refusal}
use Rattle.network.specs.declared.Refusal.TheVariants.{Nodes, Arcs, Layout}
use Rattle.lines.specs.declared.Line.TheVariants.{Problem}
use Rattle.dimacs.specs.Progress.{begun}
use Rattle.dimacs.specs.Reading.{Reading, past, down, opening}
use Rattle.dimacs.specs.Stage.{Held, Reached, GoesOn}
use Rattle.dimacs.specs.declared.Tally.{Tally}
use Rattle.std.specs.Prelude.{Option, Some, None, Result, Ok, Err, ok_or}

module _ (i n m : ℕ) where
  pub nodes-outside : outside least_nodes most_nodes n ≡ true → opening i (Problem n m) ≡ down Nodes
  unfolding opening
  nodes-outside h = rw h

  pub arcs-outside : outside least_nodes most_nodes n ≡ false → outside 1 most_arcs m ≡ true → opening i (Problem n m) ≡ down Arcs
  unfolding opening
  arcs-outside h l = rw (h, l)

  pub opened : outside least_nodes most_nodes n ≡ false → outside 1 most_arcs m ≡ false → opening i (Problem n m) ≡ past (begun n m)
  unfolding opening
  opened h l = rw (h, l)

-- a tally by another name
pub held-as : {s t : Option Tally} {ts hs cs : List ℕ} → s ≡ t → Held s ts hs cs → Held t ts hs cs
held-as {ts} {hs} {cs} e h = rw e at h

-- a line behind the p line, by the tally that it leaves or that is missing
module _ (i : ℕ) (r : Reading) (ts hs cs : List ℕ) where
  pub gone_on : (o : Option Tally) → GoesOn i r o ts hs cs → {t : Tally} → ◌≡◌ {A = Result Tally Refusal} (Ok t) (ok_or o (Layout i)) →
      Reached r (Some t) ts hs cs
  gone_on None g e = absurd (cc)
  gone_on (Some u) g {t} e = let q : t ≡ u = cc in rw q g

  pub gone_wrong : (o : Option Tally) → GoesOn i r o ts hs cs → {w : Refusal} → ◌≡◌ {A = Result Tally Refusal} (Err w) (ok_or o (Layout i)) →
      r ≡ down w
  gone_wrong None g {w} e = let q : w ≡ Layout i = cc in rw q g
  gone_wrong (Some u) g e = absurd (cc)
