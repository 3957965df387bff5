-- What a site's call does to each floor is that floor's own call, and nothing else. Assumes nothing.
use mathlib.Core.Path.{◌≡◌, refl, sym, ap, subst, ◌∙◌}
use mathlib.Core.Bool.{false}
use mathlib.Core.List.{List, ◌++◌}
use Prim.Native.Nat.{ℕ, suc, ◌+◌, ◌*◌, ◌≤◌, ◌<◌}
use native.Mathlib.Omega.{arith}
use lib.ListN.{length, drop, length-append}
use Rattle.network.specs.Network.{Network}
use Rattle.network.specs.Refusal.{host_number}
use Rattle.numbers.specs.Digits.{to_bytes}
use Rattle.numbers.specs.Numbers.{count, number_at}
use Rattle.numbers.proofs.Digits.{length_digits}
use Rattle.packed.specs.Part.{part, put}
use Rattle.packed.proofs.Columns.{part_length}
use Rattle.packed.proofs.Replaced.{length-kept, part-early, part-late, drop-kept}
use Rattle.call.specs.Host.{Slices, verdict_in, called, Served, Hosted}
use Rattle.call.proofs.Equal.{same-slices}
use Rattle.call.proofs.Hosts.{result_fits}
use Rattle.call.proofs.Lengths.{lengths-kept}
use Rattle.call.proofs.ReadBack.{taken-up}
use Rattle.site.specs.Parts.{told, own, put_own}
use Rattle.site.specs.Singly.{own_in, Singly}
use Rattle.site.specs.Site.{Site, networks, network_of, precision_of, lent_to, verdict_of, sent, Sited}
use Rattle.site.specs.Turns.{Guaranteed}
use Rattle.site.proofs.Eight.{seven-of, returned-read, answer-left}
use Rattle.site.proofs.Listed.{listed}
use Rattle.site.proofs.Shared.{own-early, own-late, own_behind}
use Rattle.site.proofs.Sites.{site-answered}

-- The contract of a floor's own call, with each slice in another form.
moved :
    (net : Network) (q office : ℕ) {old old' new new' : Slices} {r r' : ℕ} → old ≡ old' → new ≡ new' → r ≡ r' →
    Served net q office (verdict_in false net q office old) old new r → Served net q office (verdict_in false net q office old') old' new' r'
moved net q office o n e h = rw (o, n, e) at h

module _ (t : Site) (old : Slices) (room : 8 * networks t ≤ count old.answer) (g : (i : ℕ) → i < networks t → Guaranteed t i (sent t old i)) where
  abbrev k : ℕ
  k = networks t

  -- what is lent to floor i's own call, what that returns and what it leaves
  abbrev lent : ℕ → Slices
  lent i = lent_to t i (sent t old i)

  abbrev result : ℕ → ℕ
  result i = host_number (verdict_of t i (sent t old i))

  abbrev own_call : ℕ → Slices
  own_call i = called (network_of t i) (precision_of t i) t.office (verdict_of t i (sent t old i)) (lent i)

  kept : (i : ℕ) → i < k →
      (length (own_call i).flow ≡ length (lent i).flow) × (length (own_call i).lengths ≡ length (lent i).lengths) × (length (own_call i).answer ≡ length (lent i).answer)
  kept i h = lengths-kept false (network_of t i) (precision_of t i) t.office (lent i) (g i h)

  -- the slices of which each floor has a part
  flow-turn : (i : ℕ) → i < k → (sent t old (suc i)).flow ≡ put_own t.floors 5 i (sent t old i).flow (own_call i).flow
  unfolding sent
  flow-turn i h = refl

  lengths-turn : (i : ℕ) → i < k → (sent t old (suc i)).lengths ≡ put_own t.floors 6 i (sent t old i).lengths (own_call i).lengths
  unfolding sent
  lengths-turn i h = refl

  -- the answers, eight numbers a floor
  abbrev answers : ℕ → List ℕ
  answers i = (sent t old i).answer

  abbrev eight : ℕ → List ℕ
  eight i = to_bytes 8 (result i) ++ (own_call i).answer

  answers_next : (i : ℕ) → i < k → 64 * i + 64 ≤ 64 * suc i
  answers_next i h = omega arith

  answers-inside : (i : ℕ) → i < k → 64 * i + 64 ≤ length (answers 0)
  unfolding sent
  answers-inside i h = omega (arith, room)

  eight-sized : (i : ℕ) → i < k → length (answers i) ≡ length (answers 0) → length (eight i) ≡ 64
  eight-sized i h e =
      let seven = part_length (64 * i + 8) 56 (answers i) (omega (arith, answers-inside i h, e)) in
      length-append (to_bytes 8 (result i)) (own_call i).answer ∙ omega (arith, length_digits 8 (result i), (kept i h).2, seven)

  answers-turn : (i : ℕ) → i < k → length (answers i) ≡ length (answers 0) → answers (suc i) ≡ put (64 * i) 64 (answers i) (eight i)
  unfolding sent
  answers-turn i h e = refl

  answers-length : (i : ℕ) → i ≤ k → length (answers i) ≡ length (answers 0)
  answers-length = length-kept (λ i. 64 * i) (λ i. 64) answers eight k answers_next answers-inside eight-sized answers-turn

  early : (i : ℕ) → i < k → part (64 * i + 8) 56 (answers i) ≡ part (64 * i + 8) 56 (answers 0)
  early i h =
      seven-of (answers i) i (omega (arith, answers-inside i h, answers-length i (omega arith))) ∙
      (ap (drop 8) (part-early (λ i. 64 * i) (λ i. 64) answers eight k answers_next answers-inside eight-sized answers-turn i i (omega arith) h) ∙
      sym (seven-of (answers 0) i (answers-inside i h)))

  late : (i : ℕ) → i < k → part (64 * i) 64 (answers k) ≡ eight i
  late i h = part-late (λ i. 64 * i) (λ i. 64) answers eight k answers_next answers-inside eight-sized answers-turn i k h (omega arith)

  -- one floor, by the slices as they stand at its turn, and by those before and after the site's call
  module _ (i : ℕ) (h : i < k) where
    there : 64 * i + 64 ≤ length (answers k)
    there = omega (arith, answers-inside i h, answers-length k (omega arith))

    lent_is : lent i ≡ own_in t i (sent t old 0) (sent t old i).counts
    lent_is =
        same-slices (own-early t.floors 5 k (λ i. (sent t old i).flow) (λ i. (own_call i).flow) (λ i h. (kept i h).0) flow-turn i h)
        (own-early t.floors 6 k (λ i. (sent t old i).lengths) (λ i. (own_call i).lengths) (λ i h. (kept i h).1) lengths-turn i h) (early i h) refl

    left_is : own_in t i (sent t old k) (sent t old (suc i)).counts ≡ own_call i
    unfolding sent
    left_is =
        same-slices (own-late t.floors 5 k (λ i. (sent t old i).flow) (λ i. (own_call i).flow) (λ i h. (kept i h).0) flow-turn i h)
        (own-late t.floors 6 k (λ i. (sent t old i).lengths) (λ i. (own_call i).lengths) (λ i h. (kept i h).1) lengths-turn i h)
        (answer-left (answers k) i there (result i) (own_call i).answer (late i h)) refl

    returned-is : number_at (answers k) (8 * i) ≡ result i
    returned-is =
        returned-read (answers k) i there (result i) (own_call i).answer (late i h) (result_fits false (network_of t i) (precision_of t i) t.office (lent i))

    alone : Hosted false (told t.floors i 0) (told t.floors i 1) t.office (own t.floors 2 i t.belts) (own t.floors 3 i t.pairs) (own t.floors 4 i t.limits)
        (own_in t i (sent t old 0) (sent t old i).counts) (own_in t i (sent t old k) (sent t old (suc i)).counts) (number_at (answers k) (8 * i))
    alone = moved (network_of t i) (precision_of t i) t.office lent_is (sym left_is) (sym returned-is) (record { returned = refl; left = refl; guarantee = g i h })

  of-sent : Singly t old (sent t old k)
  unfolding sent
  of-sent =
      record {
        counts = λ i. (sent t old i).counts;
        first = refl;
        last = refl;
        each = alone;
        flow-behind = own_behind t.floors 5 k (λ i. (sent t old i).flow) (λ i. (own_call i).flow) (λ i h. (kept i h).0) flow-turn;
        lengths-behind = own_behind t.floors 6 k (λ i. (sent t old i).lengths) (λ i. (own_call i).lengths) (λ i h. (kept i h).1) lengths-turn;
        answers-behind = drop-kept (λ i. 64 * i) (λ i. 64) answers eight k answers_next answers-inside eight-sized answers-turn k (64 * k) (omega arith) (omega arith);
      }

-- A call that returned 0.
pub singly : {t : Site} {old new : Slices} {r : ℕ} → Sited t old new r → r ≡ 0 → Singly t old new
singly {t} {old} {new} s e =
    let a = site-answered t old s e in
    subst (Singly t old) (sym (s.left ∙ taken-up a (sent t old (networks t)) old)) (of-sent t old (listed t.floors old.answer a).room (s.guarantee a))
