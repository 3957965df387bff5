-- Document 01's bound on a file. Assumes nothing.
use Rattle.std.specs.Prelude.{ℕ}

-- "over 65,536 bytes" (document 01, "Turned down")
abbrev pub most_bytes : ℕ
most_bytes = 65536
