-- What the parts of the program that solve and judge ask and leave; cited only by their contracts.
use Rattle.std.specs.Prelude.{◌≡◌, List, [], ◌∷◌, ℕ, ◌+◌, ◌*◌, ◌^◌, ◌≤◌, ◌<◌, ℤ, pos, length, get_or, take, replicate, Result, MatchResult}
use Rattle.arith.specs.Lists.{up_to, flat}
use Rattle.bounds.specs.Bounds.{most_arcs}
use Rattle.signed.specs.Signed.{size}
use Rattle.network.specs.Network.{Network, commodities}
use Rattle.network.specs.Refusal.{Verdict, Accepted}
use Rattle.network.specs.declared.Refusal.{Refusal}
use Rattle.method.specs.Answer.{outcome}
use Rattle.method.specs.Fits.{Signed64}
use Rattle.method.specs.Guarantee.{Guarantee}
use Rattle.packed.specs.Packed.{net_in, Lent, net_numbers, table_numbers}
use Rattle.packed.specs.declared.Shape.{Shape}
use Rattle.dimacs.specs.File.{holds, parsed}
use Rattle.dimacs.specs.declared.Parsed.{Parsed}
use Rattle.lines.specs.Text.{bytes}
use Rattle.rows.specs.Decimal.{decimal}
use Rattle.rows.specs.Put.{Put}
use Rattle.rows.specs.Row.{row}
use Rattle.rows.specs.Rows.{refusal_row}
use Rattle.report.specs.Listing.{verdict_held, verdict_rows, file_rows}

-- The row of arc e, of whose amount the size times a is written over y.
abbrev pub belt_of : List ℕ → List ℕ → List ℤ → ℕ → ℕ → ℕ → List ℕ
belt_of tails heads flow a y e = row (bytes "belt") (decimal (get_or tails e 0)) (decimal (get_or heads e 0)) (size (get_or flow e (pos 0)) * a) y

-- the rows of all arcs
abbrev pub belts_of : List ℕ → List ℕ → List ℤ → ℕ → ℕ → List ℕ
belts_of tails heads flow a y = flat (belt_of tails heads flow a y) (up_to (length tails))

-- A head and an amount for each arc, sizes and products that fit, and room for the rows.
pub record Belted (tails heads : List ℕ) (flow : List ℤ) (a at room : ℕ) : Type 0 where
  pub of-heads : length heads ≡ length tails
  pub of-flow : length flow ≡ length tails
  pub sizes : Signed64 flow
  pub fits : (e : ℕ) → e < length tails → size (get_or flow e (pos 0)) * a < 2 ^ 64
  pub enough : at + 90 * length tails ≤ room

-- The shape of a file's network, and the network: the first entries of the tables read, and one commodity.
abbrev pub shape_of : Parsed → Shape
shape_of file = record { nodes = file.nodes; arcs = file.arcs; commodities = 1; limits = 0; resources = file.arcs }

abbrev pub network_of_file : Parsed → Network
network_of_file file =
    record {
      nodes = file.nodes;
      tails = take file.arcs file.tails;
      heads = take file.arcs file.heads;
      capacities = take file.arcs file.capacities;
      marks = replicate file.arcs 0;
      limits = [];
      sources = file.source ∷ [];
      sinks = file.sink ∷ [];
    }

-- Room in the file's tables and in the slice.
pub record Packing (file : Parsed) (net : List ℕ) : Type 0 where
  pub few : file.arcs ≤ most_arcs
  pub of-tails : length file.tails ≡ most_arcs
  pub of-heads : length file.heads ≡ most_arcs
  pub of-capacities : length file.capacities ≡ most_arcs
  pub places : net_numbers ≤ length net

-- An accepted network of one commodity, and room for its rows: 159 bytes for the first three, and 90 for each of 256 arcs.
pub record Ready (s : Shape) (net : List ℕ) (at room : ℕ) : Type 0 where
  pub lent : Lent s 4 net
  pub one : commodities (net_in s net) ≡ 1
  pub enough : at + 23199 ≤ room

-- And work space of its size.
pub record Showing (s : Shape) (net : List ℕ) (flow : List ℤ) (tables : List ℕ) (at room : ℕ) : Type 0 where
  pub ready : Ready s net at room
  pub flows : length flow ≡ s.arcs
  pub places : table_numbers ≤ length tables

-- The rows that follow from the verdict v on a network stand from place `at` on; where it is accepted, all that holds of its outcome.
pub record Shown (net : Network) (v : Verdict) (out : List ℕ) (at : ℕ) (out' : List ℕ) (end : ℕ) : Type 0 where
  pub rows : Put (verdict_rows net v) out at out' end
  pub guarantee : v ≡ Accepted → Guarantee net 4 (outcome net 4)

-- The rows that follow from a file of the bytes text: they stand from place `at` on, or they are a refusal's and none is written. Where the file
-- holds an accepted network, all that holds of its outcome.
pub record Filed (text out : List ℕ) (at : ℕ) (out' : List ℕ) (end : ℕ) (r : Result Unit Refusal) : Type 0 where
  pub rows : MatchResult r (λ _. Put (file_rows (parsed text)) out at out' end) (λ why. (out' ≡ out) × (end ≡ at) × (file_rows (parsed text) ≡ refusal_row why))
  pub guarantee : (net : Network) → parsed text ≡ holds net → verdict_held net ≡ Accepted → Guarantee net 4 (outcome net 4)
