-- `listing::read_full` meets its contract: what a read gave stands behind what stood in front. Assumes nothing.
use Rattle.std.proofs.Common.{◌≡◌, ℕ, ◌+◌, ◌≤◌, List, ◌++◌, length, take, arith, length-append}
use Rattle.std.proofs.KnownBytes.{Consumes-trans}
use Rattle.std.proofs.Math.Seq.{take-add, drop_at, length-take-le}
use Rattle.std.proofs.lemmas.List.{take-append-le}
use borrow.Rule.Slice.PartMut.{put_mid, post_of, take_put}
use Rattle.listing.proofs.read_full.Goals as goal

front : (d k n : ℕ) (xs ys : List ℕ) → d ≤ length xs → n ≤ length ys → take (d + n) (put_mid d k xs ys) ≡ take d xs ++ take n ys
front d k n xs ys h l =
    let long : length (take d xs) ≡ d = length-take-le d xs h in
    rw (take-add d n (put_mid d k xs ys), take_put d k xs ys h, drop_at (take d xs) (ys ++ post_of d k xs) d long, take-append-le n ys (post_of d k xs) l)

long : (d k n : ℕ) (xs ys : List ℕ) → d ≤ length xs → n ≤ length ys → d + n ≤ length (put_mid d k xs ys)
long d k n xs ys h l = simp (length-append, length-take-le d xs h) (omega arith)

pub loop-done-preserved : goal.loop-done-preserved
loop-done-preserved g c =
    let i = c.loop-done.invariant in
    let r = c.in-Ok.ensures in
    record {
      within = long c.loop-done.done _ c.in-Ok.n c.loop-done.room c.read.new.buf i.within r.bound.0;
      bytes = rw (front c.loop-done.done _ c.in-Ok.n c.loop-done.room c.read.new.buf i.within r.bound.0) (Consumes-trans _ _ _ _ _ i.bytes r.bytes.0);
    }
