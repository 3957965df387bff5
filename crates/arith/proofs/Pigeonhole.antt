-- A list without repetition whose members are all in another list is no longer than that one; so distinct numbers from 1 to n are at most n.
-- Assumes nothing.
use mathlib.Core.Path.{◌≡◌, refl, sym, ap}
use mathlib.Core.Logic.{⊎_elim}
use mathlib.Core.List.{List, [], ◌∷◌, ◌++◌}
use Prim.Native.Nat.{ℕ, ◌≤◌}
use native.Mathlib.Omega.{arith}
use lib.ListN.{length, length-append}
use Rattle.arith.specs.Distinct.{Distinct, empty, more}
use Rattle.arith.specs.Lists.{up_from}
use Rattle.arith.specs.Member.{Member, first, later, first-or-later, left-or-right, member-left, member_right, equal-member}
use Rattle.arith.proofs.Ranges.{length-up_from, up_from-member}

module _ {A : Type 0} where
  -- A list around one of its members: what stands before it, and after it.
  pub record Around (x : A) (xs : List A) : Type 0 where
    pub front : List A
    pub back : List A
    pub whole : xs ≡ front ++ x ∷ back

  pub around : {x : A} {xs : List A} → Member x xs → Around x xs
  around {x} (first {xs = zs} e) = record { front = []; back = zs; whole = rw e }
  around (later {x = z} m) =
      let r = around m in
      record { front = z ∷ r.front; back = r.back; whole = ap (λ (l : List A). z ∷ l) r.whole }

  -- A member other than x is still one where x is left out.
  without : {x y : A} (xs ys : List A) → (y ≡ x → ⊥) → Member y (xs ++ x ∷ ys) → Member y (xs ++ ys)
  without {x} {y} xs ys ne m =
      ⊎_elim
      (λ (h : Member y xs). member-left ys h)
      (λ (h : Member y (x ∷ ys)). member_right xs (⊎_elim (λ (e : y ≡ x). absurd (ne e)) (λ (t : Member y ys). t) (first-or-later h)))
      (left-or-right xs m)

  pub pigeonhole : {xs : List A} (ys : List A) → Distinct xs → ((x : A) → Member x xs → Member x ys) → length xs ≤ length ys
  pigeonhole ys empty h = omega arith
  pigeonhole ys (more {x = x} {xs = xs} new d) h =
      let r = around (h x (first refl)) in
      omega (
        arith,
        ap length r.whole,
        length-append r.front (x ∷ r.back),
        length-append r.front r.back,
        pigeonhole
            (r.front ++ r.back)
            d
            (λ y m. without r.front r.back (λ e. new (equal-member (sym e) m)) (rw r.whole at (h y (later m)))),
      )

-- Distinct numbers from 1 to n are at most n.
pub distinct-few : {xs : List ℕ} (n : ℕ) → Distinct xs → ((x : ℕ) → Member x xs → (1 ≤ x) × (x ≤ n)) → length xs ≤ n
distinct-few {xs} n d h =
    omega (
      arith,
      length-up_from 1 n,
      pigeonhole (up_from 1 n) d (λ x m. let b = h x m in up_from-member x 1 n b.0 (omega arith)),
    )
