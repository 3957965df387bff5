-- What a call that hands lists back leaves of a lent table.
use Rattle.std.specs.Prelude.{List, ◌++◌, length, drop}

-- A lent table after its first places took the numbers xs; later places keep their contents.
unfoldable pub overlaid : {A : Type 0} → List A → List A → List A
overlaid xs table = xs ++ drop (length xs) table
