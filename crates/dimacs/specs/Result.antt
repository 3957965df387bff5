-- What a file comes to, as the reader hands it over.
use Rattle.std.specs.Prelude.{◌≡◌, List, ◌++◌, ℕ, ◌-◌, length, replicate, Result, Ok, Err}
use Rattle.bounds.specs.Bounds.{most_arcs}
use Rattle.network.specs.Network.{source, sink}
use Rattle.network.specs.Refusal.{at, refusal_code}
use Rattle.network.specs.declared.Code.{Code}
use Rattle.network.specs.declared.Refusal.{Refusal}
use Rattle.dimacs.specs.File.{File, holds, refused, parsed}
use Rattle.dimacs.specs.declared.Parsed.{Parsed}

-- the numbers, and zeros up to a place for each arc that a file may have
unfoldable pub padded : List ℕ → List ℕ
padded xs = xs ++ replicate (most_arcs - length xs) 0

-- A network fills the tables from the front; of a refused file there is only why.
unfoldable pub result_of : File → Result Parsed Refusal
result_of (holds net) =
    Ok (record {
      nodes = net.nodes;
      arcs = length net.tails;
      source = source net 0;
      sink = sink net 0;
      tails = padded net.tails;
      heads = padded net.heads;
      capacities = padded net.capacities;
    })
result_of (refused r) = Err r

-- Document 01's number and place of what a file comes to: 0 and 0, or the refusal's. They are not
-- joined as a host call joins them: line 1,000 of a file and a long file would be one number.
unfoldable pub file_code : File → Code
file_code (holds net) = at 0 0
file_code (refused r) = refusal_code r

-- The same of what the reader hands over.
unfoldable pub verdict_code : Result Parsed Refusal → Code
verdict_code (Ok p) = at 0 0
verdict_code (Err r) = refusal_code r

-- The contract of the reader, for a file of the bytes text: what is handed over, and document 01's
-- number and place of it.
pub record Read (text : List ℕ) (r : Result Parsed Refusal) : Type 0 where
  pub result : r ≡ result_of (parsed text)
  pub code : verdict_code r ≡ file_code (parsed text)
