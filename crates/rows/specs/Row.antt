-- The rows of the listing. Document 01, "File and listing": "RFC 4180 rows ended by carriage return and line feed".
-- No field holds a comma, a quotation mark or a line end, so none is quoted (RFC 4180, section 2).
use Rattle.std.specs.Prelude.{List, [], ◌∷◌, ◌++◌, ℕ}
use Rattle.lines.specs.Text.{bytes}
use Rattle.rows.specs.Decimal.{decimal}

-- A field, each further field after a comma (byte 44), then carriage return and line feed (bytes 13 and 10).
unfoldable pub delimited : List ℕ → List (List ℕ) → List ℕ
delimited f [] = f ++ (13 ∷ 10 ∷ [])
delimited f (g ∷ gs) = f ++ (44 ∷ delimited g gs)

-- "Fields: row kind; tail and head (empty but on belt rows); a fraction's upper and lower number."
unfoldable pub row : List ℕ → List ℕ → List ℕ → ℕ → ℕ → List ℕ
row kind tail head upper lower = delimited kind (tail ∷ head ∷ decimal upper ∷ decimal lower ∷ [])

-- the header: row,tail,head,upper,lower
unfoldable pub header : List ℕ
header = delimited (bytes "row") (bytes "tail" ∷ bytes "head" ∷ bytes "upper" ∷ bytes "lower" ∷ [])
