-- The numbers of the refusals, and their places. Document 01, "Turned down". No other definition has them.
use Rattle.std.specs.Prelude.{ℕ, ◌+◌, ◌*◌, Result, Ok, Err}
use Rattle.bounds.specs.Bounds.{place_numbers}
use Rattle.network.specs.declared.Code.{Code}
use Rattle.network.specs.declared.Refusal.{Refusal}
use Rattle.network.specs.declared.Refusal.TheVariants.{Nodes, Arcs, Commodities, Precision, ShortTable, LooseArc, Capacity, LooseCommodity, Layout, LongFile, FullCount, Networks, Limit, Resources, Office}

-- What the checks of a call come to: nothing is at fault, or why it is turned down.
abbrev pub Verdict : Type 0
Verdict = Result Unit Refusal

pattern abbrev pub Accepted : Verdict
Accepted = Ok tt

pattern abbrev pub Refused : Refusal → Verdict
Refused r = Err r

-- the number x at the place p
abbrev pub at : ℕ → ℕ → Code
at x p = record { number = x; place = p }

-- Document 01's number and place: 1 stations, 2 belts, 3 pairs, 4 precision, 5 short table, 6 loose belt and 7 capacity at the belt, 8 loose pair at
-- the pair, 9 layout at the line, 10 long file, 11 full count; request C-14's 13 networks; request C-17's 14 limit at the station,
-- 15 belts plus limits; request C-20's 16 office
abbrev pub refusal_code : Refusal → Code
refusal_code Nodes = at 1 0
refusal_code Arcs = at 2 0
refusal_code Commodities = at 3 0
refusal_code Precision = at 4 0
refusal_code ShortTable = at 5 0
refusal_code (LooseArc p) = at 6 p
refusal_code (Capacity p) = at 7 p
refusal_code (LooseCommodity p) = at 8 p
refusal_code (Layout p) = at 9 p
refusal_code LongFile = at 10 0
refusal_code FullCount = at 11 0
refusal_code Networks = at 13 0
refusal_code (Limit p) = at 14 p
refusal_code Resources = at 15 0
refusal_code Office = at 16 0

-- What a host call returns: 0, or the number times 1,000 plus the place. Document 01, "The floor and its flow".
abbrev pub host_number : Verdict → ℕ
host_number Accepted = 0
host_number (Refused r) = (refusal_code r).number * place_numbers + (refusal_code r).place
