-- The tables of an outcome have their sizes, and its amounts and numbers take eight bytes each: nothing is cut where they are handed back.
use Rattle.std.specs.Prelude.{◌≡◌, List, ℕ, ◌*◌, ◌^◌, ◌<◌, ℤ, pos, length, get_or}
use Rattle.network.specs.Flow.{sizes_on}
use Rattle.network.specs.Network.{Network, arcs, commodities}
use Rattle.network.specs.Resources.{resources}
use Rattle.signed.specs.Signed.{size}
use Rattle.method.specs.Answer.{Outcome, numbers_of, amounts}

-- Every number of the list is below 2^64.
abbrev pub Unsigned64 : List ℕ → Type 0
Unsigned64 xs = (j : ℕ) → get_or xs j 0 < 2 ^ 64

-- Every amount of the list has a size below 2^63.
abbrev pub Signed64 : List ℤ → Type 0
Signed64 xs = (j : ℕ) → size (get_or xs j (pos 0)) < 2 ^ 63

-- k * m amounts, and a length for each resource. Lengths and the answer's numbers are below 2^64,
-- and so are F * c(b) and the sizes on each arc times c(b).
pub record Fits (net : Network) (o : Outcome) : Type 0 where
  pub amounts-count : length o.flow ≡ commodities net * arcs net
  pub lengths-count : length o.lengths ≡ resources net
  pub flow : Signed64 o.flow
  pub lengths : Unsigned64 o.lengths
  pub answer : Unsigned64 (numbers_of o.answer)
  pub total : o.answer.total * o.answer.capacity < 2 ^ 64
  pub sizes : (e : ℕ) → e < arcs net → sizes_on net (amounts net o.flow) e * o.answer.capacity < 2 ^ 64
