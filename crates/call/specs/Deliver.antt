-- What writing an accepted call's outcome asks and leaves.
use Rattle.std.specs.Prelude.{◌≡◌, List, map, ℕ, ◌*◌, ◌≤◌, length}
use Rattle.bounds.specs.Bounds.{most_running, answer_numbers}
use Rattle.signed.specs.Signed.{twos}
use Rattle.network.specs.Network.{Network}
use Rattle.numbers.specs.Numbers.{count, written}
use Rattle.method.specs.Answer.{outcome}
use Rattle.method.specs.Guarantee.{Guarantee}
use Rattle.method.specs.declared.Answer.{Answer}
use Rattle.call.specs.Host.{Slices, count_of, solved}
use Rattle.call.specs.declared.Tables.{Tables}

-- The four slices, for the contracts of parts.
abbrev pub slices : List ℕ → List ℕ → List ℕ → List ℕ → Slices
slices flow lengths answer counts = record { flow = flow; lengths = lengths; answer = answer; counts = counts }

-- What the tables of a call hold, and the counts beside them.
abbrev pub slices_of : Tables → List ℕ → Slices
slices_of t counts = slices t.flow.now t.lengths.now t.answer.now counts

-- The tables are the ones that were lent, each as long as it was, whatever they hold now.
pub record SameTables (old new : Tables) : Type 0 where
  pub flow-length : length new.flow.now ≡ length old.flow.now
  pub lengths-length : length new.lengths.now ≡ length old.lengths.now
  pub answer-length : length new.answer.now ≡ length old.answer.now
  pub flow : new.flow.ghost_name ≡ old.flow.ghost_name
  pub lengths : new.lengths.ghost_name ≡ old.lengths.ghost_name
  pub answer : new.answer.ghost_name ≡ old.answer.ghost_name

-- Room for the amounts of k commodities on m arcs and the lengths of r resources.
pub record Room (k m r : ℕ) (flow lengths : List ℕ) : Type 0 where
  pub for-flow : k * m ≤ count flow
  pub for-lengths : r ≤ count lengths

-- Every table has room, and the only count that is looked at here is not full: the office's own is lent by itself, as that of office 1.
pub record Open (k m r : ℕ) (s : Slices) : Type 0 where
  pub for-tables : Room k m r s.flow s.lengths
  pub for-answer : answer_numbers ≤ count s.answer
  pub for-counts : 1 ≤ count s.counts
  pub full : count_of 1 s.counts ≤ most_running

-- The answer is the outcome's, and so are the numbers written into two tables.
pub record TablesWritten (net : Network) (q : ℕ) (a : Answer) (flow lengths new-flow new-lengths : List ℕ) : Type 0 where
  pub answers : a ≡ (outcome net q).answer
  pub flows : new-flow ≡ written flow (map twos (outcome net q).flow)
  pub bests : new-lengths ≡ written lengths (outcome net q).lengths
  pub guarantee : Guarantee net q (outcome net q)

-- The outcome's numbers are written.
pub record Delivered (net : Network) (q : ℕ) (old new : Slices) : Type 0 where
  pub left : new ≡ solved net q 1 old
  pub guarantee : Guarantee net q (outcome net q)
