-- The words of a line, as the parts of a slice that is cut at blanks.
-- Assumes nothing.
use mathlib.Core.Path.{◌≡◌, refl, ap}
use mathlib.Core.Bool.{Bool, true, false, cond, not}
use mathlib.Core.List.{List, [], ◌∷◌}
use Prim.Native.Nat.{ℕ, suc}
use native.Mathlib.Omega.{arith}
use lib.Dec.{eqb}
use lib.ListN.{length}
use borrow.Author.Tests.{ne_eqb}
use denote.Param.Members.{Mut}
use denote.Ref.{Bor}
use Rattle.std.proofs.lemmas.Iterator.{YieldsList}
use Rattle.std.proofs.lemmas.Iterator.Consumers.{YieldsList-from_filter}
use Rattle.std.proofs.lemmas.Iterator.Splits.{YieldsList-from_slice_split}
use Rattle.std.specs.Fn.{CalledAt}
use Rattle.std.specs.Iterator.Adapters.{filter_source, filter_callee, filter_steps}
use Rattle.std.specs.declared.iter.Filter.{Filter}
use Rattle.std.specs.declared.slice.Split.{Split}
use Rattle.std.specs.Slice.Iter.{split_rest, split_done, split_callee, split_steps}
use Rattle.std.specs.List.{slice_split, onto_first, filter}
use Rattle.arith.specs.Lists.{keep}
use Rattle.lines.specs.Pieces.{blank, filled, lead, pieces, words_of}

-- A part with a byte, as the program asks for one.
abbrev pub lengthy : List ℕ → Bool
lengthy w = not (eqb (length w) 0)

-- The parts of a cut are the pieces, or the pieces and an empty part behind them.
data Cut : List (List ℕ) → List (List ℕ) → Type 0 where
  done : Cut [] []
  end : Cut ([] ∷ []) []
  more : {w : List ℕ} {ps qs : List (List ℕ)} → Cut ps qs → Cut (w ∷ ps) (w ∷ qs)

led : (x : ℕ) {ps qs : List (List ℕ)} → Cut ps qs → Cut (onto_first x ps) (lead x qs)
unfolding lead
led x done = more done
led x end = more done
led x (more c) = more c

cut : (f : ℕ → Bool) (s : List ℕ) → Cut (slice_split f s) (pieces f s)
unfolding pieces
cut f [] = end
cut f (x ∷ xs) = by (f x) (cut f xs)
  where
    by : (t : Bool) {ps qs : List (List ℕ)} → Cut ps qs → Cut (cond t ([] ∷ ps) (onto_first x ps)) (cond t ([] ∷ qs) (lead x qs))
    by true c = more c
    by false c = led x c

kept : {ps qs : List (List ℕ)} → Cut ps qs → filter lengthy ps ≡ keep filled qs
unfolding keep filled
kept done = refl
kept end = refl
kept (more {w = []} c) = kept c
kept (more {w = x ∷ w} c) = rw (ne_eqb (suc (length w)) 0 (λ e. omega arith)) (ap (λ (ws : List (List ℕ)). (x ∷ w) ∷ ws) (kept c))

split-words : (line : List ℕ) → filter lengthy (slice_split blank line) ≡ words_of line
unfolding words_of
split-words line = kept (cut blank line)

-- what a chain that cuts a line at blanks and passes by the empty parts gives: the words; the facts are the two calls' clauses
pub YieldsList-from_words : {F G : Type 0} {s : Split ℕ F} {t : Filter (Split ℕ F) G} (f : Mut F (Bor ℕ × Unit {0}) Bool)
    (g : Mut G (Bor (Bor (List ℕ)) × Unit {0}) Bool) {p : F} {q : G} (line : List ℕ) →
    split_rest s ≡ line → split_done s ≡ false → split_callee s ≡ p → ((x : ℕ) (b : Bool) (r : F) → CalledAt f p x b r → (r ≡ p) × (b ≡ blank x)) →
    filter_source t ≡ s → filter_callee t ≡ q → ((x : Bor (List ℕ)) (b : Bool) (r : G) → CalledAt g q x b r → (r ≡ q) × (b ≡ lengthy x.now)) →
    YieldsList (filter_steps (split_steps f) g) (λ w. w.now) t (words_of line)
YieldsList-from_words {s = s} {t = t} f g line rest undone at_blank is_blank source at_part has_byte =
    rw (← (split-words line))
    (YieldsList-from_filter {steps = split_steps f} {ys = slice_split blank line} g lengthy
    (rw source (YieldsList-from_slice_split f blank line rest undone at_blank is_blank))
    at_part
    has_byte)
