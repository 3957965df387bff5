-- The length of a node, as it is read by an index.
use Rattle.std.specs.Prelude.{List, ℕ, get_or}
use Rattle.index.specs.Index.{place_at}

-- That of the resource which node v is; 0 where that is past all resources.
abbrev pub through : List ℕ → List ℕ → ℕ → ℕ
through ix l v = get_or l (place_at ix v) 0
