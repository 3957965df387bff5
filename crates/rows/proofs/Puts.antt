-- Laws of bytes put one behind the other: they are put as one list, the table keeps its length, and from place 0 they are its front.
-- Assumes nothing.
use mathlib.Core.Path.{◌≡◌, refl, ap, ◌∙◌}
use mathlib.Core.List.{List, [], ◌∷◌, ◌++◌, append_assoc}
use Prim.Native.Nat.{ℕ, ◌+◌, ◌≤◌, ◌<◌}
use native.Mathlib.Nat.{zero-add}
use native.Mathlib.Numerals.{add-one}
use native.Mathlib.Omega.{arith}
use lib.ListN.{length, take, set, length-append}
use lib.Seq.{length-take-le, set_split}
use Rattle.method.specs.Overlaid.{overlaid}
use Rattle.numbers.specs.Parts.{splice}
use Rattle.numbers.proofs.Over.{length_over}
use Rattle.numbers.proofs.Splices.{splice-is-over, splice-after}
use Rattle.rows.specs.Put.{Put}

splices : (s : List ℕ) (p : ℕ) (xs ys : List ℕ) → p ≤ length s → splice (splice s p xs) (p + length xs) ys ≡ splice s p (xs ++ ys)
splices s p xs ys h =
    let front : length (take p s ++ xs) ≡ p + length xs = simp (length-append, length-take-le p s) in
    rw (splice-is-over s p xs h, ← front, splice-after)
    (rw (append_assoc (take p s) xs ys, ← splice-is-over s p (xs ++ ys) h))

length-splice : (s : List ℕ) (p : ℕ) (xs : List ℕ) → p + length xs ≤ length s → length (splice s p xs) ≡ length s
length-splice s p xs h =
    let front : length (take p s ++ xs) ≡ p + length xs = simp (length-append, length-take-le p s (omega arith)) in
    rw (splice-is-over s p xs (omega arith), length_over (take p s ++ xs) s (omega arith))

-- The table keeps its length.
pub put-length : {xs out out' : List ℕ} {at end : ℕ} → Put xs out at out' end → length out' ≡ length out
put-length {xs} {out} {out'} {at} p = ap length p.places ∙ length-splice out at xs p.room

-- One byte stored.
pub put_one : (out : List ℕ) (at b : ℕ) → at < length out → Put (b ∷ []) out at (set out at b) (at + 1)
put_one out at b h = record { places = rw add-one (set_split out at b h); next = refl; room = omega arith }

-- Some bytes, and more right behind them.
pub put_next :
    {xs ys out mid out' : List ℕ} {at next end : ℕ} → Put xs out at mid next → Put ys mid next out' end → Put (xs ++ ys) out at out' end
put_next {xs} {ys} {out} {mid} {out'} {at} {next} {end} p q =
    record {
      places = q.places ∙ (rw (p.places, p.next) (splices out at xs ys (omega (arith, p.room))));
      next = simp length-append (omega (arith, p.next, q.next));
      room = simp length-append (omega (arith, p.next, q.room, put-length p));
    }

-- Few bytes end soon.
pub put-within : {xs out out' : List ℕ} {at end n : ℕ} → Put xs out at out' end → length xs ≤ n → end ≤ at + n
put-within p h = omega (arith, p.next)

-- From place 0 on the bytes are the front.
pub put-after : {xs out out' : List ℕ} {end : ℕ} → Put xs out 0 out' end → out' ≡ overlaid xs out
unfolding overlaid
put-after {xs} p = p.places ∙ rw zero-add refl
