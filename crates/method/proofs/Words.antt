-- The words of k numbers below m: exactly these lists, in dictionary order.
-- Assumes nothing.
use mathlib.Core.Path.{◌≡◌, refl, sym, subst₂, ◌∙◌}
use mathlib.Core.Logic.{⊎_elim}
use mathlib.Core.List.{List, [], ◌∷◌, map}
use Prim.Native.Nat.{ℕ, zero, suc, ◌<◌}
use native.Mathlib.Omega.{arith}
use lib.ListN.{length}
use Rattle.arith.specs.Lists.{up_to, flat}
use Rattle.arith.specs.Member.{Member, first, later, no_member, first-or-later, only-member, map-member, member-map}
use Rattle.arith.proofs.Members.{member-flat, flat-member}
use Rattle.arith.proofs.Ranges.{member-up_to, up_to-member}
use Rattle.arith.proofs.Sorted.{Sorted, empty, before, sorted-map, sorted-flat, sorted-up_to}
use Rattle.method.specs.Choice.{words}
use Rattle.method.specs.Order.{smaller}
use Rattle.method.proofs.Orders.{Ahead, as_many, ahead-cons}

-- A list of k numbers below m.
pub record Word (m k : ℕ) (p : List ℕ) : Type 0 where
  pub size : length p ≡ k
  pub below : (e : ℕ) → Member e p → e < m

nil-word : (m : ℕ) → Word m 0 []
nil-word m = record { size = refl; below = λ e h. absurd (no_member h) }

cons-word : (m k e : ℕ) (p : List ℕ) → e < m → Word m k p → Word m (suc k) (e ∷ p)
cons-word m k e p l w =
    record {
      size = omega (arith, w.size);
      below = λ d h. ⊎_elim (λ (q : d ≡ e). rw q l) (λ (r : Member d p). w.below d r) (first-or-later h);
    }

-- the words that begin with e, with k numbers after it
abbrev beginning : ℕ → ℕ → ℕ → List (List ℕ)
beginning m k e = map (λ p. e ∷ p) (words m k)

-- A word that begins: its first number, the rest, and what is known of them.
begun :
    (m k : ℕ) (p : List ℕ) → Member p (flat (beginning m k) (up_to m)) → (e : ℕ) × (q : List ℕ) × (e < m) × Member q (words m k) × (e ∷ q ≡ p)
begun m k p h =
    let s = member-flat (beginning m k) (up_to m) h in
    let t = member-map (λ q. s.0 ∷ q) (words m k) s.2 in
    (s.0, t.0, member-up_to s.0 m s.1, t.1, t.2)

pub word-member : (m k : ℕ) (p : List ℕ) → Word m k p → Member p (words m k)
unfolding words
word-member m zero [] w = first refl
word-member m zero (e ∷ p) w = absurd (omega (arith, w.size))
word-member m (suc k) [] w = absurd (omega (arith, w.size))
word-member m (suc k) (e ∷ p) w =
    let rest = word-member m k p (record { size = omega (arith, w.size); below = λ d h. w.below d (later h) }) in
    flat-member (beginning m k) (up_to-member e m (w.below e (first refl))) (map-member (λ q. e ∷ q) rest)

pub member-word : (m k : ℕ) (p : List ℕ) → Member p (words m k) → Word m k p
unfolding words
member-word m zero p h = rw (only-member h) (nil-word m)
member-word m (suc k) p h =
    let b = begun m k p h in
    rw (← b.4) (cons-word m k b.0 b.1 b.2 (member-word m k b.1 b.3))

-- Of two words of k numbers the one that stands earlier is before the other in dictionary order.
pub words-sorted : (m k : ℕ) → Sorted Ahead (words m k)
unfolding words
words-sorted m zero = before (λ p h. absurd (no_member h)) empty
words-sorted m (suc k) =
    sorted-flat
    (beginning m k)
    (λ e. sorted-map (λ q. e ∷ q) (λ p q. ahead-cons e) (words-sorted m k))
    (λ d e p q l a b.
    let s = member-map (λ r. d ∷ r) (words m k) a in
    let t = member-map (λ r. e ∷ r) (words m k) b in
    let sizes : length s.0 ≡ length t.0 = (member-word m k s.0 s.1).size ∙ sym (member-word m k t.0 t.1).size in
    subst₂ Ahead s.2 t.2 (as_many (omega arith) (smaller l)))
    (sorted-up_to m)
