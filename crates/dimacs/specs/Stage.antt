-- What the program holds between two lines; cited only by the contracts of its parts.
use Rattle.std.specs.Prelude.{◌≡◌, List, ℕ, ◌-◌, ◌≤◌, length, take, drop, replicate, Option, Some, None, MatchOption, Result, MatchResult}
use Rattle.bounds.specs.Bounds.{most_arcs}
use Rattle.network.specs.declared.Refusal.{Refusal}
use Rattle.network.specs.declared.Refusal.TheVariants.{Layout}
use Rattle.dimacs.specs.Progress.{Progress}
use Rattle.dimacs.specs.Reading.{Reading, before, past, down}
use Rattle.dimacs.specs.declared.Tally.{Tally}

-- What was read so far: a tally, and as many entries of the three tables as it has found.
abbrev pub progress_of : Tally → List ℕ → List ℕ → List ℕ → Progress
progress_of t ts hs cs =
    record {
      nodes = t.nodes;
      wanted = t.wanted;
      source = t.source;
      sink = t.sink;
      tails = take t.found ts;
      heads = take t.found hs;
      capacities = take t.found cs;
    }

-- how far the reading is: there is a tally past the p line
abbrev pub reading_of : Option Tally → List ℕ → List ℕ → List ℕ → Reading
reading_of None ts hs cs = before
reading_of (Some t) ts hs cs = past (progress_of t ts hs cs)

-- a table with a place for each arc that a file may have, whose numbers are 0 from place n on
pub record Tidy (n : ℕ) (xs : List ℕ) : Type 0 where
  pub size : length xs ≡ most_arcs
  pub zeros : drop n xs ≡ replicate (most_arcs - n) 0

-- how many places of a table may be other than 0
abbrev pub used : Option Tally → ℕ
used None = 0
used (Some t) = t.found

-- the arcs wanted have room in the tables
abbrev pub Room : Option Tally → Type 0
Room None = Unit {0}
Room (Some t) = (t.found ≤ t.wanted) × (t.wanted ≤ most_arcs)

-- what a tally and its tables keep between two lines
pub record Held (s : Option Tally) (ts hs cs : List ℕ) : Type 0 where
  pub room : Room s
  pub tails : Tidy (used s) ts
  pub heads : Tidy (used s) hs
  pub capacities : Tidy (used s) cs

-- The tally and the tables hold the reading r.
pub record Reached (r : Reading) (s : Option Tally) (ts hs cs : List ℕ) : Type 0 where
  pub reading : reading_of s ts hs cs ≡ r
  pub held : Held s ts hs cs

-- A line came to the reading r: a tally or none yet, which hold it, or why the file is turned down.
abbrev pub Comes : Reading → Result (Option Tally) Refusal → List ℕ → List ℕ → List ℕ → Type 0
Comes r o ts hs cs = MatchResult o (λ s. Reached r s ts hs cs) (λ why. r ≡ down why)

-- Line i, behind the p line, came to the reading r: a tally, which holds it, or it breaks the layout.
abbrev pub GoesOn : ℕ → Reading → Option Tally → List ℕ → List ℕ → List ℕ → Type 0
GoesOn i r o ts hs cs = MatchOption o (r ≡ down (Layout i)) (λ t. Reached r (Some t) ts hs cs)
