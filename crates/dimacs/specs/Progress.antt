-- What a file has given so far, past its p line. Document 01, "File and listing".
use Rattle.std.specs.Prelude.{List, [], ◌∷◌, ◌++◌, ℕ, Option, Some, None}

-- What the p line and the lines after it gave so far: n, m, the ends of the only pair, and the a lines in order.
pub record Progress : Type 0 where
  pub nodes : ℕ
  pub wanted : ℕ
  pub source : Option ℕ
  pub sink : Option ℕ
  pub tails : List ℕ
  pub heads : List ℕ
  pub capacities : List ℕ

-- these seven parts
abbrev pub progress : ℕ → ℕ → Option ℕ → Option ℕ → List ℕ → List ℕ → List ℕ → Progress
progress n m s t us vs cs = record { nodes = n; wanted = m; source = s; sink = t; tails = us; heads = vs; capacities = cs }

-- just past the line p max n m
unfoldable pub begun : ℕ → ℕ → Progress
begun n m = progress n m None None [] [] []

-- past the line n v s
unfoldable pub with_source : ℕ → Progress → Progress
with_source v p = progress p.nodes p.wanted (Some v) p.sink p.tails p.heads p.capacities

-- past the line n v t
unfoldable pub with_sink : ℕ → Progress → Progress
with_sink v p = progress p.nodes p.wanted p.source (Some v) p.tails p.heads p.capacities

-- past the line a u v c
unfoldable pub with_arc : ℕ → ℕ → ℕ → Progress → Progress
with_arc u v c p =
    progress p.nodes p.wanted p.source p.sink (p.tails ++ (u ∷ [])) (p.heads ++ (v ∷ [])) (p.capacities ++ (c ∷ []))
