-- The calls for a host in C: what every byte slice that they share holds afterwards. Document 01, "The floor and its flow".
use Rattle.std.specs.Prelude.{◌≡◌, Bool, ◌||◌, List, [], ◌∷◌, map, ℕ, ◌+◌, ◌*◌, ◌-◌, ltb}
use Rattle.bounds.specs.Bounds.{most_running, offices, answer_numbers}
use Rattle.signed.specs.Signed.{twos}
use Rattle.network.specs.Network.{Network, arcs, commodities}
use Rattle.network.specs.Refusal.{host_number, Verdict, Accepted}
use Rattle.network.specs.Resources.{resources}
use Rattle.network.specs.Verdict.{Condition, when, outside, verdict_on, afterwards}
use Rattle.network.specs.declared.Refusal.TheVariants.{ShortTable, FullCount, Office}
use Rattle.numbers.specs.Numbers.{count, number_at, written, put_at}
use Rattle.decode.specs.Decode.{network_in}
use Rattle.method.specs.Answer.{outcome, numbers_of}
use Rattle.method.specs.Guarantee.{Guarantee}

-- The bytes of the slices that every call may write, at its start or at its end: the last is the table of counts.
pub record Slices : Type 0 where
  pub flow : List ℕ
  pub lengths : List ℕ
  pub answer : List ℕ
  pub counts : List ℕ

-- An office's running count, in a table with one for each office in order, the first for office 1.
abbrev pub count_of : ℕ → List ℕ → ℕ
count_of office counts = number_at counts (office - 1)

-- The table once it is raised by some iterations: "a call raises its own office's count by its choices and no other" (request C-20). Every other
-- byte keeps its contents, those of later places too.
abbrev pub raised : ℕ → ℕ → List ℕ → List ℕ
raised office iterations counts = put_at counts (office - 1) (count_of office counts + iterations)

-- A lent table is too small for what the call may write, k commodities on m arcs with r resources: one of those that the call has beside these
-- (lacking), or one of these.
unfoldable pub short : Bool → ℕ → ℕ → ℕ → Slices → Bool
short lacking k m r s =
    lacking ||
    (ltb (count s.flow) (k * m) || ltb (count s.lengths) r || ltb (count s.answer) answer_numbers || ltb (count s.counts) offices)

-- 16, and 11 of that office alone.
unfoldable pub office_conditions : ℕ → List ℕ → List Condition
office_conditions office counts = when (outside 1 offices office) Office ∷ when (ltb most_running (count_of office counts)) FullCount ∷ []

-- 5, 16 and 11 concern these calls.
unfoldable pub host_conditions : Bool → ℕ → ℕ → ℕ → ℕ → Slices → List Condition
host_conditions lacking k m r office s = when (short lacking k m r s) ShortTable ∷ office_conditions office s.counts

-- The verdict on a call.
abbrev pub verdict_in : Bool → Network → ℕ → ℕ → Slices → Verdict
verdict_in lacking net q office s = verdict_on net q (host_conditions lacking (commodities net) (arcs net) (resources net) office s)

-- What an accepted call makes of the slices: in each table the outcome's numbers first, amounts in two's complement, and later bytes as they were;
-- the office's count raised by the iterations.
abbrev pub solved : Network → ℕ → ℕ → Slices → Slices
solved net q office s =
    record {
      flow = written s.flow (map twos (outcome net q).flow);
      lengths = written s.lengths (outcome net q).lengths;
      answer = written s.answer (numbers_of (outcome net q).answer);
      counts = raised office (outcome net q).answer.count s.counts;
    }

-- What a call with the verdict v makes of them: a refused one, nothing.
abbrev pub called : Network → ℕ → ℕ → Verdict → Slices → Slices
called net q office v s = afterwards v (solved net q office s) s

-- What such a call leaves: its result and its slices; and where it is accepted, all that holds of the outcome.
pub record Served (net : Network) (q office : ℕ) (v : Verdict) (old new : Slices) (result : ℕ) : Type 0 where
  pub returned : result ≡ host_number v
  pub left : new ≡ called net q office v old
  pub guarantee : v ≡ Accepted → Guarantee net q (outcome net q)

-- What every call that solves promises; one that writes nothing else lacks no table, and promises no more.
abbrev pub Hosted : Bool → ℕ → ℕ → ℕ → List ℕ → List ℕ → List ℕ → Slices → Slices → ℕ → Type 0
Hosted lacking n q office belts pairs limits old new result =
    Served (network_in n belts pairs limits) q office (verdict_in lacking (network_in n belts pairs limits) q office old) old new result
