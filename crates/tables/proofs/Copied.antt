-- A part of a table on its way to another place further on. Assumes nothing.
use mathlib.Core.Path.{◌≡◌, refl, sym, ap, ap₂, ◌∙◌}
use mathlib.Core.List.{List, ◌++◌, append_assoc}
use Prim.Native.Nat.{ℕ, ◌+◌, ◌-◌, ◌≤◌, ◌<◌}
use native.Mathlib.Numerals.{add-one}
use native.Mathlib.Omega.{arith}
use lib.ListN.{length, get_or, take, drop, set, length-set}
use lib.Seq.{paste, paste-zero, paste-suc, take_all, take_at, length-take-le, get_or-take, drop-drop}
use Rattle.packed.specs.Packed.{part, put}
use Rattle.packed.proofs.Columns.{part_length, part_at}

-- The table ys on the way from xs, with the first e of n numbers copied.
pub record Copying (xs : List ℕ) (from to n e : ℕ) (ys : List ℕ) : Type 0 where
  pub now : ys ≡ paste xs to (part from n xs) e
  pub long : length ys ≡ length xs
  pub within : e ≤ n

pub copying-none : (xs : List ℕ) (from to n : ℕ) → Copying xs from to n 0 xs
copying-none xs from to n = record { now = paste-zero xs to (part from n xs); long = refl; within = omega arith }

module _ {xs ys : List ℕ} {from to n e : ℕ} (behind : from + n ≤ to) (room : to + n ≤ length xs) (C : Copying xs from to n e ys) where
  abbrev piece : List ℕ
  piece = part from n xs

  size : length piece ≡ n
  size = part_length from n xs (omega arith)

  -- What is copied from is as it was.
  reads : e < n → get_or (paste xs to piece e) (from + e) 0 ≡ get_or piece e 0
  reads l =
      let front : take to (paste xs to piece e) ≡ take to xs =
      ap (take to) (append_assoc (take to xs) (take e piece) (drop (to + e) xs)) ∙
      take_at (take to xs) (take e piece ++ drop (to + e) xs) to (length-take-le to xs (omega arith)) in
      sym (get_or-take to (paste xs to piece e) (from + e) 0 (omega arith)) ∙
      (ap (λ (zs : List ℕ). get_or zs (from + e) 0) front ∙ (get_or-take to xs (from + e) 0 (omega arith) ∙ sym (part_at from n xs e l)))

  pub copying-more : e < n → Copying xs from to n (e + 1) (set ys (to + e) (get_or ys (from + e) 0))
  copying-more l =
      record {
        now = rw (C.now, reads l, add-one) (paste-suc xs to piece e 0 (omega arith) (omega (arith, size)));
        long = length-set ys (to + e) (get_or ys (from + e) 0) ∙ C.long;
        within = omega arith;
      }

  pub copying-all : n ≤ e → ys ≡ put to n xs piece
  copying-all l =
      let same : e ≡ n = omega (arith, C.within) in
      let whole : to + n - to ≡ n = omega arith in
      C.now ∙
      (ap (λ i. paste xs to piece i) same ∙
      (append_assoc (take to xs) (take n piece) (drop (to + n) xs) ∙
      ap (λ (zs : List ℕ). take to xs ++ zs)
      (ap₂ (λ (a b : List ℕ). a ++ b) (take_all n piece (omega (arith, size))) (sym (ap (λ i. drop i (drop to xs)) whole ∙ drop-drop n to xs)))))
