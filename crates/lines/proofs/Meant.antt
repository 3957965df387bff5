-- What a line means, by its first byte.
-- Assumes nothing.
use mathlib.Core.Path.{◌≡◌, refl}
use mathlib.Core.List.{List, [], ◌∷◌}
use Prim.Native.Nat.{ℕ}
use Rattle.std.proofs.Common.{Some, None}
use Rattle.std.specs.List.{slice_get}
use Rattle.lines.specs.Meaning.{lettered, meaning}
use Rattle.lines.specs.Pieces.{words_of}
use Rattle.lines.specs.declared.Line.TheVariants.{Broken}

pub first_byte : (line : List ℕ) {a b : ℕ} → Some a ≡ slice_get line 0 → a ≡ b → meaning line ≡ lettered b (words_of line)
unfolding meaning
first_byte [] e h = absurd (cc)
first_byte (x ∷ xs) {a} {b} e h = let q : x ≡ b = cc in rw q

pub no_byte : (line : List ℕ) → None ≡ slice_get line 0 → Broken ≡ meaning line
unfolding meaning
no_byte [] e = refl
no_byte (x ∷ xs) e = absurd (cc)
