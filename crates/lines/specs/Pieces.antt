-- The lines of a file and the words of a line, as lists of bytes. Document 01, "File and listing".
use Rattle.std.specs.Prelude.{Bool, true, false, cond, ◌||◌, List, [], ◌∷◌, ℕ, eqb}
use Rattle.arith.specs.Lists.{keep}

-- x at the front of the first list, or in a list of its own where there is none
unfoldable pub lead : ℕ → List (List ℕ) → List (List ℕ)
lead x [] = (x ∷ []) ∷ []
lead x (l ∷ ls) = (x ∷ l) ∷ ls

-- A list cut at every member that passes the test, without that member. After a cut at the very end no further piece starts.
unfoldable pub pieces : (ℕ → Bool) → List ℕ → List (List ℕ)
pieces f [] = []
pieces f (x ∷ xs) = cond (f x) ([] ∷ pieces f xs) (lead x (pieces f xs))

-- the line feed, byte 10
unfoldable pub line_feed : ℕ → Bool
line_feed b = eqb b 10

-- The lines of a file: they "end in a line feed (the last may lack it)".
unfoldable pub lines_of : List ℕ → List (List ℕ)
lines_of text = pieces line_feed text

-- a space, byte 32, or a tab, byte 9, and nothing else
unfoldable pub blank : ℕ → Bool
blank b = eqb b 32 || eqb b 9

-- a list with a member
unfoldable pub filled : List ℕ → Bool
filled [] = false
filled (x ∷ xs) = true

-- The words of a line: what stands between blanks and is not empty, since words "are parted by one or more spaces or tabs, which may also end a line".
unfoldable pub words_of : List ℕ → List (List ℕ)
words_of line = keep filled (pieces blank line)
