-- The digits of a number put one after the other. Assumes nothing.
use mathlib.Core.Path.{◌≡◌, ap, ◌∙◌}
use mathlib.Core.List.{List, [], ◌∷◌}
use Prim.Native.Nat.{ℕ, ◌+◌, ◌/◌, ◌%◌, ◌^◌, ◌≤◌, ◌<◌}
use native.Mathlib.Omega.{arith}
use lib.ListN.{length, length-append}
use Rattle.rows.specs.Decimal.{decimal}
use Rattle.rows.specs.Put.{Put}
use Rattle.rows.proofs.Decimals.{decimal-one, decimal-more}
use Rattle.rows.proofs.Puts.{put_next}

-- The last digit takes one byte.
pub one-digit : (x : ℕ) → x < 10 → length (decimal x) ≡ 1
one-digit x h = ap length (decimal-one x h)

pub last-digit : (x : ℕ) → 10 ≤ x → x < 2 ^ 64 → length (decimal x) ≡ length (decimal (x / 10)) + 1
last-digit x h l = ap length (decimal-more x h (omega arith)) ∙ length-append (decimal (x / 10)) ((48 + x % 10) ∷ [])

-- A number of one digit.
pub one-put : {out out' : List ℕ} {at end : ℕ} (x b : ℕ) → x < 10 → b ≡ 48 + x % 10 → Put (b ∷ []) out at out' end → Put (decimal x) out at out' end
one-put x b h e p =
    let d : x % 10 ≡ x = omega arith in
    rw (decimal-one x h, ← (e ∙ ap (λ n. 48 + n) d)) p

-- A number of more digits: the last behind those before it.
pub last-put :
    {out mid out' : List ℕ} {at last end : ℕ} (x b : ℕ) → 10 ≤ x → x < 2 ^ 64 → b ≡ 48 + x % 10 → Put (decimal (x / 10)) out at mid last →
    Put (b ∷ []) mid last out' end → Put (decimal x) out at out' end
last-put x b h l e p q = rw (decimal-more x h (omega arith), ← e) (put_next p q)
