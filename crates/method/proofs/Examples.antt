-- Document 01's worked runs, computed from the definitions: the figures of its listing and of "Run
-- by a program", a run in which the number of belts decides between equal routes, reversible belts,
-- limited stations, an unjoined network, other precisions, and two belts that are the fullest.
-- Assumes nothing.
use mathlib.Core.Path.{◌≡◌}
use mathlib.Core.Bool.{Bool, true, ◌&&◌}
use mathlib.Core.Option.{bind}
use mathlib.Core.List.{List, [], ◌∷◌, ◌++◌, map}
use Prim.Native.Nat.{ℕ, zero, suc, ◌<◌}
use native.Mathlib.Nat.{not-suc-le-zero, le_of_suc-le-suc}
use lib.Dec.{T}
use lib.ListN.{length, get_or}
use Rattle.arith.specs.Ceiling.{ceil}
use Rattle.arith.specs.Lists.{up_from, up_to, exists, flat, keep}
use Rattle.arith.specs.Same.{same}
use Rattle.arith.specs.Sum.{sum}
use Rattle.arith.proofs.Same.{same-eq, and_parts}
use Rattle.length.specs.Length.{scale, mark, start, growth, halving}
use Rattle.length.specs.Level.{level, threshold}
use Rattle.length.specs.Levels.{levels}
use Rattle.signed.specs.Signed.{twos}
use Rattle.network.specs.Network.{Network}
use Rattle.network.specs.Path.{leads, follow, path_length}
use Rattle.network.specs.Resources.{limits_below, place, resources, resource_capacities, used_at, uses}
use Rattle.network.specs.Visited.{visited}
use Rattle.method.specs.Choice.{words, ends_at, paths, candidates, sooner, least, choice}
use Rattle.method.specs.Iteration.{initial, weight, draw, update, pushed, grown, settled, advance, iteration}
use Rattle.method.specs.Run.{ended, runs, run}
use Rattle.method.specs.Answer.{Outcome, fullest, numbers_of, unjoined, outcome_of, outcome}

-- The answer's seven numbers, then the flow as a byte slice has it, then the best lengths.
pub figures : Outcome → List ℕ
figures o = numbers_of o.answer ++ (map twos o.flow ++ o.lengths)

-- The definitions give these figures for the network at precision q.
gives : Network → ℕ → List ℕ → Bool
unfolding
    figures ceil up_from up_to exists flat keep sum same scale mark start growth halving level threshold levels leads follow path_length visited
    limits_below place resources resource_capacities used_at uses words ends_at paths candidates sooner least choice initial weight draw update pushed grown settled advance iteration ended runs run fullest
    numbers_of unjoined outcome_of outcome bind twos
gives net q xs = same (figures (outcome net q)) xs

-- n nodes with these limits; arcs by tails, heads, capacities and marks; commodities by sources and sinks.
floor : ℕ → List ℕ → List ℕ → List ℕ → List ℕ → List ℕ → List ℕ → List ℕ → Network
floor n ls ts hs cs ms ss zs = record { nodes = n; tails = ts; heads = hs; capacities = cs; marks = ms; limits = ls; sources = ss; sinks = zs }

-- no node limited and no arc reversible
net : ℕ → List ℕ → List ℕ → List ℕ → List ℕ → List ℕ → Network
net n ts hs cs ss zs = floor n [] ts hs cs [] ss zs

-- The rows: a network, a precision, and what document 01 and a second solver say of the two.
pub record Example : Type 0 where
  pub network : Network
  pub precision : ℕ
  pub figures : List ℕ

pub rows : List Example
rows =
    -- "File and listing": total 31 over 16, bound 137438953472 over 68719476736, 31 choices, the first gave the bound, belts 16 and 15
    record {
      network = net 2 (1 ∷ 1 ∷ []) (2 ∷ 2 ∷ []) (1 ∷ 1 ∷ []) (1 ∷ []) (2 ∷ []);
      precision = 4;
      figures = 31 ∷ 1 ∷ 16 ∷ 137438953472 ∷ 68719476736 ∷ 31 ∷ 1 ∷ 16 ∷ 15 ∷ 68719476736 ∷ 68719476736 ∷ [];
    } ∷
    -- "Run by a program": one belt of 5 gives 4 choices, F = 20, scale 5 over 20
    record {
      network = net 2 (1 ∷ []) (2 ∷ []) (5 ∷ []) (1 ∷ []) (2 ∷ []);
      precision = 4;
      figures = 20 ∷ 5 ∷ 20 ∷ 68719476740 ∷ 13743895348 ∷ 4 ∷ 1 ∷ 20 ∷ 13743895348 ∷ [];
    } ∷
    -- the same: belts 1→2 of 2 and 2→3 of 3, pairs (1,3) and (2,3): 16 choices, all for pair 2, F = 48, total 3
    record {
      network = net 3 (1 ∷ 2 ∷ []) (2 ∷ 3 ∷ []) (2 ∷ 3 ∷ []) (1 ∷ 2 ∷ []) (3 ∷ 3 ∷ []);
      precision = 4;
      figures = 48 ∷ 3 ∷ 48 ∷ 2021844476893 ∷ 651041666719 ∷ 16 ∷ 16 ∷ 0 ∷ 0 ∷ 0 ∷ 48 ∷ 34359738368 ∷ 651041666719 ∷ [];
    } ∷
    -- five belts between three stations, two pairs; the figures are a second solver's
    record {
      network =
          net 3 (1 ∷ 1 ∷ 2 ∷ 3 ∷ 1 ∷ []) (2 ∷ 3 ∷ 3 ∷ 2 ∷ 3 ∷ []) (2 ∷ 4 ∷ 3 ∷ 1 ∷ 2 ∷ []) (1 ∷ 2 ∷ []) (3 ∷ 3 ∷ []);
      precision = 4;
      figures =
          274 ∷ 4 ∷ 128 ∷ 5017645813062 ∷ 542101086249 ∷ 90 ∷ 90 ∷ 0 ∷ 128 ∷ 0 ∷ 0 ∷ 56 ∷ 0 ∷ 0 ∷ 90 ∷ 0 ∷ 0 ∷ 1073741824 ∷
          542101086249 ∷ 578241158712 ∷ 2147483648 ∷ 555111512317 ∷ [];
    } ∷
    -- from station 1 to 3 two belts or one, equally long at first, and then one for both; the figures are a second solver's
    record {
      network = net 4 (1 ∷ 2 ∷ 1 ∷ 3 ∷ []) (2 ∷ 3 ∷ 3 ∷ 4 ∷ []) (4 ∷ 4 ∷ 2 ∷ 4 ∷ []) (1 ∷ []) (4 ∷ []);
      precision = 4;
      figures =
          114 ∷ 4 ∷ 114 ∷ 5403483390422 ∷ 1231661558051 ∷ 38 ∷ 37 ∷ 76 ∷ 76 ∷ 38 ∷ 114 ∷ 119209289553 ∷ 119209289553 ∷ 238418579103 ∷
          993242978948 ∷ [];
    } ∷
    -- request C-12: a reversible belt taken from head to tail, so that its amount is -20; the figures of this and the next are a second solver's
    record {
      network = floor 2 [] (2 ∷ []) (1 ∷ []) (5 ∷ []) (1 ∷ []) (1 ∷ []) (2 ∷ []);
      precision = 4;
      figures = 20 ∷ 5 ∷ 20 ∷ 68719476740 ∷ 13743895348 ∷ 4 ∷ 1 ∷ 18446744073709551596 ∷ 13743895348 ∷ [];
    } ∷
    -- a reversible belt, the third, over which 62 are drawn, 2 of them from head to tail: its amount is 58
    record {
      network =
          floor 4 [] (1 ∷ 4 ∷ 3 ∷ 1 ∷ 3 ∷ []) (4 ∷ 2 ∷ 4 ∷ 3 ∷ 2 ∷ []) (1 ∷ 4 ∷ 9 ∷ 7 ∷ 7 ∷ []) (0 ∷ 0 ∷ 2 ∷ 0 ∷ 0 ∷ []) (1 ∷ []) (2 ∷ []);
      precision = 4;
      figures = 252 ∷ 7 ∷ 228 ∷ 5327631960887 ∷ 625347768089 ∷ 63 ∷ 59 ∷ 24 ∷ 82 ∷ 58 ∷ 228 ∷ 170 ∷ 582076609137 ∷ 87206280855 ∷ 2143983523 ∷ 539224188139 ∷ 86123579950 ∷ [];
    } ∷
    -- request C-17: a belt of 5 that ends in a station with a limit of 3, which is the fullest; the figures of this and the next are a second solver's
    record {
      network = floor 2 (0 ∷ 3 ∷ []) (1 ∷ []) (2 ∷ []) (5 ∷ []) [] (1 ∷ []) (2 ∷ []);
      precision = 4;
      figures = 48 ∷ 3 ∷ 48 ∷ 2512299617612 ∷ 762876590210 ∷ 16 ∷ 16 ∷ 48 ∷ 111834923491 ∷ 651041666719 ∷ [];
    } ∷
    -- limits of 3 and 4 at stations 2 and 3, in which both pairs end: the last station is the fullest
    record {
      network = floor 3 (0 ∷ 3 ∷ 4 ∷ []) (1 ∷ 2 ∷ 1 ∷ []) (2 ∷ 3 ∷ 3 ∷ []) (4 ∷ 3 ∷ 2 ∷ []) [] (1 ∷ 2 ∷ []) (3 ∷ 3 ∷ []);
      precision = 4;
      figures =
          129 ∷ 4 ∷ 129 ∷ 5220381271544 ∷ 1197977036582 ∷ 52 ∷ 52 ∷ 0 ∷ 0 ∷ 54 ∷ 0 ∷ 75 ∷ 0 ∷ 536870912 ∷ 189478062889 ∷ 355271367883 ∷
          189478062889 ∷ 842705668699 ∷ [];
    } ∷
    -- no pair joined: zeros, and the bound 0 over 1
    record {
      network = net 3 (1 ∷ []) (2 ∷ []) (2 ∷ []) (1 ∷ 2 ∷ []) (3 ∷ 1 ∷ []);
      precision = 4;
      figures = 0 ∷ 1 ∷ 1 ∷ 0 ∷ 1 ∷ 0 ∷ 0 ∷ 0 ∷ 0 ∷ 0 ∷ [];
    } ∷
    -- the finest precision: one belt of 5 takes T = 16 choices; the figures of this and of the next
    -- two are a second solver's
    record {
      network = net 2 (1 ∷ []) (2 ∷ []) (5 ∷ []) (1 ∷ []) (2 ∷ []);
      precision = 16;
      figures = 80 ∷ 5 ∷ 80 ∷ 68719476740 ∷ 13743895348 ∷ 16 ∷ 1 ∷ 80 ∷ 13743895348 ∷ [];
    } ∷
    -- belts 2 and 3, of 15 and of 19, are both full 35 times over: the lower-numbered gives the scale
    record {
      network = net 3 (1 ∷ 1 ∷ 2 ∷ []) (2 ∷ 2 ∷ 3 ∷ []) (5 ∷ 15 ∷ 19 ∷ []) (1 ∷ []) (3 ∷ []);
      precision = 5;
      figures =
          665 ∷ 15 ∷ 525 ∷ 21844545760994 ∷ 1119345204994 ∷ 63 ∷ 63 ∷ 140 ∷ 525 ∷ 665 ∷ 566401947140 ∷ 563755717398 ∷ 555589487596 ∷ [];
    } ∷
    -- four limits for two stations: the last two are not read
    record {
      network = floor 2 (0 ∷ 3 ∷ 9 ∷ 9 ∷ []) (1 ∷ []) (2 ∷ []) (5 ∷ []) [] (1 ∷ []) (2 ∷ []);
      precision = 7;
      figures = 126 ∷ 3 ∷ 126 ∷ 2299778657408 ∷ 733229798134 ∷ 42 ∷ 42 ∷ 126 ∷ 50044631503 ∷ 683185166631 ∷ [];
    } ∷
    []

-- Every row is as the definitions compute it.
holds : List Example → Bool
holds [] = true
holds (r ∷ rs) = gives r.network r.precision r.figures && holds rs

computed : T (holds rows)
unfolding holds gives rows net floor
computed = tt

-- ... so the figures of row j are the outcome's.
at : (rs : List Example) → T (holds rs) → (j : ℕ) (d : Example) → j < length rs → figures (outcome (get_or rs j d).network (get_or rs j d).precision) ≡ (get_or rs j d).figures
unfolding holds gives
at [] t j d h = absurd (not-suc-le-zero h)
at (r ∷ rs) t zero d h = same-eq (figures (outcome r.network r.precision)) r.figures (and_parts (gives r.network r.precision r.figures) (holds rs) t).0
at (r ∷ rs) t (suc j) d h = at rs (and_parts (gives r.network r.precision r.figures) (holds rs) t).1 j d (le_of_suc-le-suc h)

-- The examples, proved together: row j's network at row j's precision has row j's figures.
pub examples : (j : ℕ) (d : Example) → j < length rows → figures (outcome (get_or rows j d).network (get_or rows j d).precision) ≡ (get_or rows j d).figures
examples j d h = at rows computed j d h
