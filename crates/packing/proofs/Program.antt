-- What holds of a packing program and its load mark: m resources with capacities c, precision q, load mark T = q * L.
-- Assumes nothing.
use Prim.Native.Nat.{ℕ, ◌+◌, ◌*◌, ◌-◌, ◌^◌, ◌≤◌, ◌<◌}
use Rattle.bounds.specs.Bounds.{most_arcs, most_capacity, least_precision, most_precision}

-- The bounds of document 01, "The floor and its flow", the rule of its table L, and the room that
-- the roundings have (`slack` of docs/GUARANTEE.md, "The argument", step 2).
pub record Program (m q L : ℕ) (c : ℕ → ℕ) : Type 0 where
  pub resources-low : 1 ≤ m
  pub resources-high : m ≤ most_arcs
  pub precision-low : least_precision ≤ q
  pub precision-high : q ≤ most_precision
  pub capacity-low : (e : ℕ) → e < m → 1 ≤ c e
  pub capacity-high : (e : ℕ) → e < m → c e ≤ most_capacity
  pub level : 1 ≤ L
  pub enough : m * q ^ L ≤ (q + 1) ^ L
  pub room : m * q * L < 2 ^ 20
  pub slack : (2 ^ 20 + 1) ^ 8 * q ^ L ≤ (2 ^ 20 - m * q * L) ^ 8 * (q + 1) ^ L
