-- What a file comes to: a network of one commodity, or a refusal. Document 01, "File and listing" and "Turned down".
use Rattle.std.specs.Prelude.{cond, List, [], ◌∷◌, ℕ, ltb, eqb, length, replicate, Option, Some, None}
use Rattle.bounds.specs.Files.{most_bytes}
use Rattle.network.specs.Network.{Network}
use Rattle.network.specs.declared.Refusal.{Refusal}
use Rattle.network.specs.declared.Refusal.TheVariants.{Layout, LongFile}
use Rattle.lines.specs.Pieces.{lines_of}
use Rattle.dimacs.specs.Progress.{Progress}
use Rattle.dimacs.specs.Reading.{Reading, before, past, down, read_lines}

-- The file keeps the layout and holds this network, or it is turned down.
pub data File : Type 0 where
  holds : Network → File
  refused : Refusal → File

-- the network of what was read: the node with s and the node with t "are source and sink of the only pair", no arc is marked, and no node limited
unfoldable pub network_read : Progress → ℕ → ℕ → Network
network_read p s t =
    record {
      nodes = p.nodes;
      tails = p.tails;
      heads = p.heads;
      capacities = p.capacities;
      marks = replicate (length p.tails) 0;
      limits = [];
      sources = s ∷ [];
      sinks = t ∷ [];
    }

-- The end of the file shows a missing s, t or a line: the place is then 0.
unfoldable pub complete : Progress → Option ℕ → Option ℕ → File
complete p None t = refused (Layout 0)
complete p (Some s) None = refused (Layout 0)
complete p (Some s) (Some t) = cond (eqb (length p.tails) p.wanted) (holds (network_read p s t)) (refused (Layout 0))

-- It shows a missing p line too, as in the empty file.
unfoldable pub closing : Reading → File
closing before = refused (Layout 0)
closing (past p) = complete p p.source p.sink
closing (down r) = refused r

-- What a file of these bytes comes to. Order: 10 first, then the file line by line.
unfoldable pub parsed : List ℕ → File
parsed text = cond (ltb most_bytes (length text)) (refused LongFile) (closing (read_lines 1 (lines_of text) before))
