-- The bytes of a text of plain letters, so that definitions can show what is written.
use Rattle.std.specs.Prelude.{List, [], ◌∷◌, ℕ, zero, suc}
use Prim.Native.Char.{code}
use Prim.Native.String.{String, len, char_at}

-- n bytes of the text, from place i on
abbrev pub bytes_from : ℕ → ℕ → String → List ℕ
bytes_from i zero s = []
bytes_from i (suc n) s = code (char_at s i) ∷ bytes_from (suc i) n s

-- all its bytes
abbrev pub bytes : String → List ℕ
bytes s = bytes_from 0 (len s) s
