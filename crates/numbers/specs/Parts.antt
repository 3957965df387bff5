-- Lists of bytes, and some of them replaced: how a table of numbers changes. No contract of a call rests on it.
-- Assumes nothing.
use Rattle.std.specs.Prelude.{ℕ, ◌+◌, ◌<◌, List, ◌++◌, length, get_or, take, drop}

-- Every element is a byte. Past the end the default is 0, so this is what a slice of bytes tells of each index.
abbrev pub Bytes : List ℕ → Type 0
Bytes s = (i : ℕ) → get_or s i 0 < 256

-- The bytes with ds in place of as many from place p on; all others kept.
abbrev pub splice : List ℕ → ℕ → List ℕ → List ℕ
splice s p ds = take p s ++ (ds ++ drop (p + length ds) s)
