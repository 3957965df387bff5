-- The rows of a listing put one after the other: none yet, and one row more. Assumes nothing.
use mathlib.Core.Path.{sym}
use mathlib.Core.List.{List}
use Prim.Native.Nat.{ℕ, ◌+◌, ◌*◌, ◌≤◌}
use native.Mathlib.Nat.{add-zero, le_antisymm}
use native.Mathlib.Numerals.{add-one}
use native.Mathlib.Omega.{arith}
use lib.IntN.{ℤ, pos}
use lib.ListN.{length, get_or, length-append, take-append-drop}
use Rattle.arith.specs.Lists.{up_from, up_to, flat}
use Rattle.lines.specs.Text.{bytes}
use Rattle.signed.specs.Signed.{size}
use Rattle.rows.specs.Decimal.{decimal}
use Rattle.rows.specs.Put.{Put}
use Rattle.rows.proofs.Digits.{decimal-short}
use Rattle.rows.proofs.Lengths.{row-length}
use Rattle.rows.proofs.Puts.{put_next}
use Rattle.report.specs.Shown.{belt_of}
use Rattle.report.proofs.Belts.{flat-more}

-- The first e rows are put, each of at most 90 bytes.
pub record Rowed (f : ℕ → List ℕ) (e : ℕ) (out : List ℕ) (at : ℕ) (out' : List ℕ) (end : ℕ) : Type 0 where
  pub now : Put (flat f (up_to e)) out at out' end
  pub short : length (flat f (up_to e)) ≤ 90 * e

pub none-rowed : (f : ℕ → List ℕ) (out : List ℕ) (at : ℕ) → at ≤ length out → Rowed f 0 out at out at
unfolding up_to up_from flat
none-rowed f out at h =
    record {
      now = record { places = rw add-zero (sym (take-append-drop at out)); next = sym (add-zero at); room = omega arith };
      short = omega arith;
    }

pub one-rowed :
    {f : ℕ → List ℕ} {e at next end : ℕ} {out mid out' : List ℕ} → Rowed f e out at mid next → Put (f e) mid next out' end →
    length (f e) ≤ 90 → Rowed f (e + 1) out at out' end
one-rowed {f} {e} r p h =
    record {
      now = rw (add-one e, flat-more f e) (put_next r.now p);
      short = rw (add-one e, flat-more f e, length-append) (omega (arith, r.short));
    }

pub all-rowed :
    {f : ℕ → List ℕ} {e at end : ℕ} {out out' : List ℕ} (n : ℕ) → Rowed f e out at out' end → e ≤ n → n ≤ e → Put (flat f (up_to n)) out at out' end
all-rowed n r h l = rw (le_antisymm l h) r.now

-- The row of an arc has at most 90 bytes.
pub belt-length : (tails heads : List ℕ) (flow : List ℤ) (a y e : ℕ) → length (belt_of tails heads flow a y e) ≤ 90
belt-length tails heads flow a y e =
    omega (
      arith,
      row-length (bytes "belt") (decimal (get_or tails e 0)) (decimal (get_or heads e 0)) (size (get_or flow e (pos 0)) * a) y,
      decimal-short (get_or tails e 0),
      decimal-short (get_or heads e 0),
    )
