-- The fullest of the first arcs, with one arc more.
-- Assumes nothing.
use mathlib.Core.Path.{◌≡◌, refl}
use mathlib.Core.Bool.{cond}
use mathlib.Core.List.{List}
use Prim.Native.Nat.{ℕ, zero, suc, ◌+◌, ◌-◌, ◌*◌, ◌≤◌, ◌<◌}
use native.Mathlib.Omega.{arith}
use borrow.Author.Tests.{lt-ltb, le-ltb}
use lib.Dec.{ltb}
use lib.ListN.{get_or}
use Rattle.method.specs.Answer.{fullest}

-- The fullest b of the arcs below e = n + 1, compared with e.
one_more :
    (caps loads : List ℕ) (b n i k : ℕ) → i ≡ n → k ≡ suc n → b ≡ fullest caps loads i →
    cond (ltb (get_or loads b 0 * get_or caps (suc n) 0) (get_or loads (suc n) 0 * get_or caps b 0)) (suc n) b ≡ fullest caps loads k
unfolding fullest
one_more caps loads b n i k p q h = rw (q, h, p)

-- The same, e counted as the loop counts it.
compared :
    (caps loads : List ℕ) (b e : ℕ) → 1 ≤ e → b ≡ fullest caps loads (e - 1) →
    cond (ltb (get_or loads b 0 * get_or caps e 0) (get_or loads e 0 * get_or caps b 0)) e b ≡ fullest caps loads (e + 1 - 1)
compared caps loads b zero l h = absurd (omega arith)
compared caps loads b (suc n) l h = one_more caps loads b n (suc n - 1) (suc n + 1 - 1) (omega arith) (omega arith) h

-- b is the fullest of the first e arcs.
pub record Ranked (caps loads : List ℕ) (e b : ℕ) : Type 0 where
  pub now : b ≡ fullest caps loads (e - 1)
  pub among : b < e

-- The first arc alone.
pub rank-first : (caps loads : List ℕ) → Ranked caps loads 1 0
unfolding fullest
rank-first caps loads = record { now = refl; among = omega arith }

-- Arc e is fuller than b, or is not.
module _ {caps loads : List ℕ} {e b : ℕ} (r : Ranked caps loads e b) where
  next : cond (ltb (get_or loads b 0 * get_or caps e 0) (get_or loads e 0 * get_or caps b 0)) e b ≡ fullest caps loads (e + 1 - 1)
  next = compared caps loads b e (omega (arith, r.among)) r.now

  pub rank-fuller :
      get_or loads b 0 * get_or caps e 0 < get_or loads e 0 * get_or caps b 0 → Ranked caps loads (e + 1) e
  rank-fuller k = record { now = rw (lt-ltb _ _ k) at next; among = omega arith }

  pub rank-other : get_or loads e 0 * get_or caps b 0 ≤ get_or loads b 0 * get_or caps e 0 → Ranked caps loads (e + 1) b
  rank-other k = record { now = rw (le-ltb _ _ k) at next; among = omega (arith, r.among) }
