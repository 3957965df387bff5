-- A site's floors in one call: what every byte slice holds afterwards. Request C-14: "every answer and table is as if the networks had been sent singly
-- in that order, running count included".
use Rattle.std.specs.Prelude.{◌≡◌, false, List, [], ◌∷◌, ◌++◌, ℕ, zero, suc, ◌+◌, ◌*◌, ◌<◌, ltb}
use Rattle.bounds.specs.Sites.{most_networks, floor_numbers}
use Rattle.network.specs.Network.{Network}
use Rattle.network.specs.Refusal.{host_number, Verdict, Accepted}
use Rattle.network.specs.Verdict.{Condition, when, outside, verdict, afterwards}
use Rattle.network.specs.declared.Refusal.TheVariants.{ShortTable, Networks}
use Rattle.numbers.specs.Digits.{to_bytes}
use Rattle.numbers.specs.Numbers.{count, items}
use Rattle.packed.specs.Part.{part, put}
use Rattle.decode.specs.Decode.{network_in}
use Rattle.method.specs.Answer.{outcome}
use Rattle.method.specs.Guarantee.{Guarantee}
use Rattle.call.specs.Host.{Slices, verdict_in, called}
use Rattle.site.specs.Parts.{told, own, put_own}

-- What the call reads: the office, the list of floors, and the slices of which each floor has a part.
pub record Site : Type 0 where
  pub office : ℕ
  pub floors : List ℕ
  pub belts : List ℕ
  pub pairs : List ℕ
  pub limits : List ℕ

-- How many networks are sent, and the one of floor i with its precision.
abbrev pub networks : Site → ℕ
networks t = items floor_numbers t.floors

abbrev pub network_of : Site → ℕ → Network
network_of t i = network_in (told t.floors i 0) (own t.floors 2 i t.belts) (own t.floors 3 i t.pairs) (own t.floors 4 i t.limits)

abbrev pub precision_of : Site → ℕ → ℕ
precision_of t i = told t.floors i 1

-- What is lent of the slices s to floor i's own call: its parts; of its 64 bytes in the table of answers, which stands in the answer's place, all but
-- the first number; and all counts.
abbrev pub lent_to : Site → ℕ → Slices → Slices
lent_to t i s =
    record {
      flow = own t.floors 5 i s.flow;
      lengths = own t.floors 6 i s.lengths;
      answer = part (64 * i + 8) 56 s.answer;
      counts = s.counts;
    }

-- The slices once all that has come back, and what that call returned is the first number.
abbrev pub handed_back : Site → ℕ → Slices → Slices → ℕ → Slices
handed_back t i s own-call result =
    record {
      flow = put_own t.floors 5 i s.flow own-call.flow;
      lengths = put_own t.floors 6 i s.lengths own-call.lengths;
      answer = put (64 * i) 64 s.answer (to_bytes 8 result ++ own-call.answer);
      counts = own-call.counts;
    }

-- The verdict on floor i, and what its own call leaves: a floor that is refused keeps its tables, and the rest go on.
abbrev pub verdict_of : Site → ℕ → Slices → Verdict
verdict_of t i s = verdict_in false (network_of t i) (precision_of t i) t.office (lent_to t i s)

abbrev pub floor_sent : Site → ℕ → Slices → Slices
floor_sent t i s =
    let v = verdict_of t i s in
    handed_back t i s (called (network_of t i) (precision_of t i) t.office v (lent_to t i s)) (host_number v)

-- The slices after the first i floors, sent singly in their order.
unfoldable pub sent : Site → Slices → ℕ → Slices
sent t s zero = s
sent t s (suc i) = floor_sent t i (sent t s i)

-- 13, then 5, before any floor is looked at.
unfoldable pub list_conditions : List ℕ → List ℕ → List Condition
list_conditions floors answers =
    when (outside 1 most_networks (items floor_numbers floors)) Networks ∷ when (ltb (count answers) (8 * items floor_numbers floors)) ShortTable ∷ []

-- The contract of the call: what it returns, the slices, and all that holds of the outcome of each floor that is accepted.
pub record Sited (t : Site) (old new : Slices) (result : ℕ) : Type 0 where
  pub returned : result ≡ host_number (verdict (list_conditions t.floors old.answer))
  pub left : new ≡ afterwards (verdict (list_conditions t.floors old.answer)) (sent t old (networks t)) old
  pub guarantee :
      verdict (list_conditions t.floors old.answer) ≡ Accepted → (i : ℕ) → i < networks t → verdict_of t i (sent t old i) ≡ Accepted →
      Guarantee (network_of t i) (precision_of t i) (outcome (network_of t i) (precision_of t i))
