-- The office's own count, cut out of the table and put back: as if it were raised in the table. Assumes nothing.
use borrow.Rule.Slice.PartMut.{put_same}
use mathlib.Core.Path.{◌≡◌, ap, ◌∙◌}
use mathlib.Core.List.{List, append-nil}
use Prim.Native.Nat.{ℕ, ◌+◌, ◌*◌, ◌-◌, ◌≤◌, ◌<◌}
use native.Mathlib.Nat.{le_of_eq}
use native.Mathlib.Omega.{arith}
use lib.ListN.{length, take, drop, drop_of_length-le}
use lib.Seq.{take_all, drop-drop}
use Rattle.numbers.specs.Digits.{from_bytes}
use Rattle.numbers.specs.Numbers.{count, number_at, put_at}
use Rattle.packed.specs.Packed.{part, put}
use Rattle.packed.proofs.Columns.{part_length}
use Rattle.call.specs.Host.{count_of, raised}

module _ (office : ℕ) (counts : List ℕ) (h : office - 1 < count counts) where
  abbrev pub own : List ℕ
  own = part (8 * (office - 1)) 8 counts

  eight : length own ≡ 8
  eight = part_length (8 * (office - 1)) 8 counts (omega arith)

  pub own-complete : 1 ≤ count own
  own-complete = omega (arith, eight)

  -- where it ends, as the checker says it
  ends : 8 * (office - 1) + 8 - 8 * (office - 1) ≡ 8
  ends = omega arith

  pub own-count : count_of 1 own ≡ count_of office counts
  unfolding number_at
  own-count = ap from_bytes (take_all 8 own (le_of_eq eight) ∙ ap (λ n. take n (drop (8 * (office - 1)) counts)) ends)

  -- one number put into it is put into the table
  own_put : (x : ℕ) → put (8 * (office - 1)) 8 counts (put_at own 0 x) ≡ put_at counts (office - 1) x
  unfolding put_at
  own_put x = rw (drop_of_length-le own {i = 8} (le_of_eq eight), append-nil, drop-drop, ends)

  pub own-raised : (x : ℕ) → put (8 * (office - 1)) 8 counts (raised 1 x own) ≡ raised office x counts
  own-raised x = ap (λ y. put (8 * (office - 1)) 8 counts (put_at own 0 (y + x))) own-count ∙ own_put (count_of office counts + x)

  pub own-kept : put (8 * (office - 1)) 8 counts own ≡ counts
  own-kept = put_same (8 * (office - 1)) (8 * (office - 1) + 8 - 8 * (office - 1)) counts
