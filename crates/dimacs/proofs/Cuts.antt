-- The lines of a file, as the parts of a slice that is cut behind each line feed.
-- Assumes nothing.
use mathlib.Core.Path.{◌≡◌, refl, ap, subst, ◌∙◌}
use mathlib.Core.Bool.{Bool, true, false, cond, ◌&&◌}
use mathlib.Core.List.{List, [], ◌∷◌, ◌++◌, append-nil}
use mathlib.Core.Logic.{⊎_elim}
use Prim.Native.Nat.{ℕ, zero, suc, ◌+◌, ◌-◌, ◌≤◌, ◌<◌, min}
use native.Mathlib.Omega.{arith}
use lib.Dec.{eqb}
use lib.ListN.{length, get_or, take, drop, length-append, drop_of_length-le}
use lib.Seq.{drop-cons, take_all, drop-append_seam}
use Rattle.std.proofs.lemmas.Fn.{always_returns_same}
use Rattle.std.proofs.lemmas.List.{take-append-le, get_or_append_left, nil_from_length}
use denote.Param.Members.{Mut}
use denote.Ref.{Bor}
use Rattle.arith.specs.Scan.{until}
use Rattle.arith.proofs.Order.{le-or-lt}
use Rattle.std.specs.Cmp.Lexicographic.{pointwise}
use Rattle.std.specs.Fn.{ComputesKey, CalledAt}
use Rattle.std.specs.Iterator.{Yields}
use Rattle.std.specs.List.{IsFirstMatchOrLen}
use Rattle.std.specs.Prelude.{Option, Some, None, MatchOption, unwrap_or}
use Rattle.std.specs.Slice.Iter.{split_inclusive_rest, split_inclusive_callee}
use Rattle.std.specs.declared.slice.SplitInclusive.{SplitInclusive}
use Rattle.lines.specs.Pieces.{line_feed, lines_of}
use Rattle.lines.proofs.Pieces.{first_piece}

until-first : (f : ℕ → Bool) (s : List ℕ) (i : ℕ) → IsFirstMatchOrLen f s i → until f s ≡ min i (length s)
unfolding until
until-first f [] i h = omega arith
until-first f (x ∷ xs) zero h = let e : f x ≡ true = h.1 (omega arith) x in rw e (omega arith)
until-first f (x ∷ xs) (suc i) h =
    let e : f x ≡ false = h.0 0 x (omega arith) (omega arith) in
    let r = until-first f xs i ((λ k d l m. h.0 (suc k) d (omega arith) (omega arith)), λ m d. h.1 (omega arith) d) in
    rw e (omega arith)

-- a line, with the line feed that ends it, if one does
abbrev pub ends : List ℕ → Bool
ends line = pointwise eqb (drop (length line - 1) line) (10 ∷ [])

ends-by : (line : List ℕ) → 0 < length line → ends line ≡ line_feed (get_or line (length line - 1) 0)
unfolding line_feed
ends-by line h =
    let n : length line - 1 < length line = omega arith in
    let last = get_or line (length line - 1) 0 in
    let e : drop (length line - 1) line ≡ last ∷ [] =
    drop-cons line (length line - 1) 0 n ∙ ap (λ xs. last ∷ xs) (drop_of_length-le line {i = suc (length line - 1)} (omega arith)) in
    rw e (by (eqb last 10))
  where
    by : (t : Bool) → t && true ≡ t
    by true = refl
    by false = refl

stripped : (line : Bor (List ℕ)) (o : Option (Bor (List ℕ))) →
    MatchOption o (ends line.now ≡ false)
    (λ x. (ends line.now ≡ true) × (x.now ≡ take (length line.now - 1) line.now) × (length x.now + 1 ≡ length line.now)) →
    (unwrap_or o line).now ≡ cond (ends line.now) (take (length line.now - 1) line.now) line.now
stripped line None h = rw h refl
stripped line (Some x) h = rw h.0 h.1

-- the first line, and those after it
module _ (x r : List ℕ) (i : ℕ) (f : IsFirstMatchOrLen line_feed (x ++ r) i) where
  -- a line feed ends it
  line-ended : length x ≡ i + 1 → lines_of (x ++ r) ≡ cond (ends x) (take (length x - 1) x) x ∷ lines_of r
  unfolding lines_of
  line-ended e =
      let n : length x - 1 ≡ i = omega arith in
      let u : until line_feed (x ++ r) ≡ i = until-first line_feed (x ++ r) i f ∙ simp length-append (omega arith) in
      let k : suc i ≡ length x = omega arith in
      let d : drop (suc i) (x ++ r) ≡ r = rw k (drop-append_seam x r) in
      let t : take i (x ++ r) ≡ take i x = take-append-le i x r (omega arith) in
      let b : line_feed (get_or (x ++ r) i 0) ≡ true = f.1 (simp length-append (omega arith)) 0 in
      let g : get_or (x ++ r) i 0 ≡ get_or x i 0 = get_or_append_left x r 0 i (omega arith) in
      let l : ends x ≡ true = ends-by x (omega arith) ∙ ap (λ m. line_feed (get_or x m 0)) n ∙ rw g at b in
      rw (first_piece line_feed (x ++ r) (simp length-append (omega arith)), u, d, t, l, n) refl

  -- the end of the file does
  line-last : 0 < length x → length x ≤ i → r ≡ [] → lines_of (x ++ r) ≡ cond (ends x) (take (length x - 1) x) x ∷ lines_of r
  unfolding lines_of
  line-last h l e =
      let a : x ++ r ≡ x = rw e (append-nil x) in
      let u : until line_feed x ≡ length x = rw a at (until-first line_feed (x ++ r) i f) ∙ omega arith in
      let b : line_feed (get_or x (length x - 1) 0) ≡ false = (rw a at f).0 (length x - 1) 0 (omega arith) (omega arith) in
      let m : ends x ≡ false = ends-by x h ∙ b in
      rw (a, first_piece line_feed x h, u, m, take_all (length x) x (omega arith), drop_of_length-le x {i = suc (length x)} (omega arith), e) refl

pub line-front : (s x r : List ℕ) (i : ℕ) → s ≡ x ++ r → length x ≡ min (i + 1) (length s) → IsFirstMatchOrLen line_feed s i → 0 < length s →
    lines_of s ≡ cond (ends x) (take (length x - 1) x) x ∷ lines_of r
line-front s x r i e l f h =
    let n : length s ≡ length x + length r = rw e (length-append x r) in
    rw e
    (⊎_elim (λ (k : length s ≤ i). line-last x r i (rw e at f) (omega arith) (omega arith) (nil_from_length r (omega arith)))
    (λ (k : i < length s). line-ended x r i (rw e at f) (omega arith))
    (le-or-lt (length s) i))

-- One part more is one line more.
module _ {F : Type 0} (g : Mut F (Bor ℕ × Unit {0}) Bool) where
  -- what `split_inclusive` says of a call of `next`
  abbrev pub Cuts : SplitInclusive ℕ F → Bor (List ℕ) → SplitInclusive ℕ F → Type 0
  Cuts s x t =
      (split_inclusive_rest s ≡ x.now ++ split_inclusive_rest t)
      × ((i : ℕ) × (length x.now ≡ min (i + 1) (length (split_inclusive_rest s)))
      × ((p : ℕ → Bool) → ComputesKey g p (split_inclusive_callee s) →
      ComputesKey g p (split_inclusive_callee t) × IsFirstMatchOrLen p (split_inclusive_rest s) i))
      × (0 < length (split_inclusive_rest s))

  abbrev pub steps : SplitInclusive ℕ F → Option (Bor (List ℕ)) → SplitInclusive ℕ F → Type 0
  steps s r t = MatchOption r ((length (split_inclusive_rest s) ≡ 0) × (t ≡ s)) (λ x. Cuts s x t)

  computes : (xs : List (Bor (List ℕ))) (s t : SplitInclusive ℕ F) → Yields steps s xs t → ComputesKey g line_feed (split_inclusive_callee s) →
      ComputesKey g line_feed (split_inclusive_callee t)
  computes [] s t y c = subst (λ (u : SplitInclusive ℕ F). ComputesKey g line_feed (split_inclusive_callee u)) y c
  computes (x ∷ xs) s t y c = computes xs y.0 t y.2 (y.1.1.2 line_feed c).0

  pub cut : (xs : List (Bor (List ℕ))) (s t u : SplitInclusive ℕ F) (line : Bor (List ℕ)) (o : Option (Bor (List ℕ))) →
      ((x : ℕ) (b : Bool) (q : F) → CalledAt g (split_inclusive_callee s) x b q → (q ≡ split_inclusive_callee s) × (b ≡ line_feed x)) → Yields steps s xs t → Cuts t line u →
      MatchOption o (ends line.now ≡ false)
      (λ x. (ends line.now ≡ true) × (x.now ≡ take (length line.now - 1) line.now) × (length x.now + 1 ≡ length line.now)) →
      (lines_of (split_inclusive_rest t) ≡ (unwrap_or o line).now ∷ lines_of (split_inclusive_rest u))
      × (length (split_inclusive_rest u) < length (split_inclusive_rest t))
  cut xs s t u line o c y k m =
      let start : ComputesKey g line_feed (split_inclusive_callee s) =
      always_returns_same g (λ a r. r ≡ line_feed a.0.now) (split_inclusive_callee s)
      (λ a r q d. let m = c a.0.now r q (record { shown = a.0; shows = refl; called = d }) in (m.1, m.0)) in
      let f = (k.1.2 line_feed (computes xs s t y start)).1 in
      let n : length (split_inclusive_rest t) ≡ length line.now + length (split_inclusive_rest u) =
      ap length k.0 ∙ length-append line.now (split_inclusive_rest u) in
      (rw (stripped line o m) (line-front (split_inclusive_rest t) line.now (split_inclusive_rest u) k.1.0 k.0 k.1.1 f k.2), omega (arith, k.1.1, k.2))
