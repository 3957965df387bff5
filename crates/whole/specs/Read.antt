-- What is read out of the bytes that an accepted call has left, and what that asks. No contract of a call rests on it.
use Rattle.std.specs.Prelude.{List, [], ℕ, ◌+◌, ◌*◌, ◌≤◌, ◌<◌, ◌^◌, ℤ}
use Rattle.signed.specs.FromTwos.{from_twos}
use Rattle.network.specs.Flow.{outflow}
use Rattle.numbers.specs.Numbers.{count, items, number_at}
use Rattle.decode.specs.Decode.{network_in}

-- The amounts in a flow table's bytes, from one place on.
abbrev pub amounts_in : List ℕ → ℕ → ℕ → ℤ
amounts_in flow from e = from_twos (number_at flow (from + e))

-- What leaves node v of a commodity whose amounts begin at that place. How many nodes there are, the limits and the pairs do not matter.
abbrev pub leaves_in : List ℕ → List ℕ → ℕ → ℕ → ℕ
leaves_in belts flow from v = outflow (network_in 0 belts [] []) (amounts_in flow from) v

-- What leaves the source of commodity i.
abbrev pub sent_in : List ℕ → List ℕ → List ℕ → ℕ → ℕ
sent_in belts pairs flow i = leaves_in belts flow (i * items 4 belts) (number_at pairs (2 * i))

-- Every number is there, nothing is divided by 0, and what leaves a source takes eight bytes, also times c(b).
pub record Readable (belts pairs flow answer totes : List ℕ) : Type 0 where
  pub rows : items 2 pairs * items 4 belts ≤ count flow
  pub answers : 3 ≤ count answer
  pub places : 2 * items 2 pairs ≤ count totes
  pub divisor : 0 < number_at answer 2
  pub small : (i : ℕ) → i < items 2 pairs → sent_in belts pairs flow i < 2 ^ 64
  pub scaled : (i : ℕ) → i < items 2 pairs → sent_in belts pairs flow i * number_at answer 1 < 2 ^ 64
