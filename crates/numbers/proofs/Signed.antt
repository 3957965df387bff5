-- Laws of a table whose first numbers are signed amounts in two's complement: it is written as any other, and the amounts are read back.
-- Assumes nothing.
use mathlib.Core.Path.{◌≡◌, ◌∙◌}
use Prim.Native.Nat.{ℕ, ◌^◌, ◌<◌}
use mathlib.Core.List.{List, map}
use lib.IntN.{ℤ, pos}
use lib.ListN.{length, get_or, length-map, get_or-map}
use Rattle.signed.specs.Signed.{size, twos}
use Rattle.signed.specs.FromTwos.{from_twos}
use Rattle.signed.proofs.Signed.{twos-below, twos-read}
use Rattle.numbers.specs.Numbers.{number_at, written}
use Rattle.numbers.proofs.Tables.{number_at-written}

get_or-twos : (xs : List ℤ) (i : ℕ) → get_or (map twos xs) i 0 ≡ twos (get_or xs i (pos 0))
unfolding twos
get_or-twos xs i = get_or-map twos xs i (pos 0)

module _ (s : List ℕ) (xs : List ℤ) (i : ℕ) (h : i < length xs) (k : size (get_or xs i (pos 0)) < 2 ^ 63) where
  pub number_at-signed : number_at (written s (map twos xs)) i ≡ twos (get_or xs i (pos 0))
  number_at-signed =
      number_at-written s (map twos xs) i (rw length-map h) (rw get_or-twos (twos-below (get_or xs i (pos 0)) k)) ∙ get_or-twos xs i

  pub signed-read : from_twos (number_at (written s (map twos xs)) i) ≡ get_or xs i (pos 0)
  signed-read = rw number_at-signed (twos-read (get_or xs i (pos 0)) k)
