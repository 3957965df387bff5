-- What rounding each pair's amount down comes to, in the numbers of the table of totes: beside the contract of the call. Request C-15.
use Rattle.std.specs.Prelude.{◌≡◌, ℕ, ◌+◌, ◌*◌, ◌≤◌, ◌<◌, get_or}
use Rattle.arith.specs.Sum.{sum}
use Rattle.network.specs.Network.{Network, commodities}
use Rattle.method.specs.Answer.{Outcome, amounts, unjoined}
use Rattle.whole.specs.Whole.{carried, totes_of}

-- The whole totes an hour of commodity i, and the remainder over Y(b).
abbrev pub whole_of : Network → Outcome → ℕ → ℕ
whole_of net o i = get_or (totes_of net o) (2 * i) 0

abbrev pub remainder_of : Network → Outcome → ℕ → ℕ
remainder_of net o i = get_or (totes_of net o) (2 * i + 1) 0

pub record Rounded (net : Network) (o : Outcome) : Type 0 where
  -- Each amount after the scale is its whole and its remainder, which is less than one tote.
  pub parts :
      (i : ℕ) → i < commodities net → carried net (amounts net o.flow) i * o.answer.capacity ≡ whole_of net o i * o.answer.load + remainder_of net o i
  pub below : (i : ℕ) → i < commodities net → remainder_of net o i < o.answer.load
  -- A commodity that carries nothing has 0 and 0, and where none is joined, each carries nothing.
  pub idle :
      (i : ℕ) → i < commodities net → carried net (amounts net o.flow) i ≡ 0 → (whole_of net o i ≡ 0) × (remainder_of net o i ≡ 0)
  pub none-joined : o ≡ unjoined net → (i : ℕ) → i < commodities net → carried net (amounts net o.flow) i ≡ 0
  -- The amounts are F together.
  pub all : sum (commodities net) (carried net (amounts net o.flow)) ≡ o.answer.total
  -- So the wholes are at most V together, and more than V - k: V is F * c(b) over Y(b).
  pub most : sum (commodities net) (whole_of net o) * o.answer.load ≤ o.answer.total * o.answer.capacity
  pub least : o.answer.total * o.answer.capacity < (sum (commodities net) (whole_of net o) + commodities net) * o.answer.load
