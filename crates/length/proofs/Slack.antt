-- The room that the roundings have, for `slack` of docs/GUARANTEE.md, "The argument", step 2: with
-- R = 2^20 and p = q + 1, m * q * L is below R, and ((R + 1) / (R - m * q * L))^8 is at most
-- (p / q)^L. A second computed test over the table L.
-- Assumes nothing.
use mathlib.Core.Bool.{Bool, ◌&&◌}
use Prim.Native.Nat.{ℕ, ◌+◌, ◌-◌, ◌*◌, ◌^◌, ◌≤◌, ◌<◌}
use lib.Dec.{T, leb, ltb, leb→le, ltb→lt}
use Rattle.length.specs.Level.{level}
use Rattle.length.specs.Levels.{levels}
use Rattle.arith.proofs.Same.{and_parts}
use Rattle.length.proofs.Lookup.{tested, lookup}

small : ℕ → ℕ → ℕ → Bool
small m q l = ltb (m * q * l) (2 ^ 20)

room : ℕ → ℕ → ℕ → Bool
room m q l = leb ((2 ^ 20 + 1) ^ 8 * q ^ l) ((2 ^ 20 - m * q * l) ^ 8 * (q + 1) ^ l)

both : ℕ → ℕ → ℕ → Bool
both m q l = small m q l && room m q l

passes : T (tested both)
unfolding levels small room both
passes = tt

-- For every m and q of document 01's range
module _ (m q : ℕ) (m≥ : 1 ≤ m) (m≤ : m ≤ 256) (q≥ : 4 ≤ q) (q≤ : q ≤ 16) where
  parts : T (small m q (level m q)) × T (room m q (level m q))
  unfolding both
  parts = and_parts (small m q (level m q)) (room m q (level m q)) (lookup both passes m q m≥ m≤ q≥ q≤)

  pub slack-small : m * q * level m q < 2 ^ 20
  unfolding small
  slack-small = ltb→lt (m * q * level m q) (2 ^ 20) parts.0

  pub slack-room : (2 ^ 20 + 1) ^ 8 * q ^ level m q ≤ (2 ^ 20 - m * q * level m q) ^ 8 * (q + 1) ^ level m q
  unfolding room
  slack-room = leb→le _ _ parts.1
