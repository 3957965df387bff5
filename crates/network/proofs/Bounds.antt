-- The conditions of document 01's table as tests, against what they say of numbers: a test is false exactly where its bounds are kept.
-- Assumes nothing.
use mathlib.Core.Path.{◌≡◌}
use mathlib.Core.Bool.{Bool, false, ◌||◌}
use Prim.Native.Nat.{ℕ}
use lib.Dec.{ltb, eqb}
use borrow.Author.Tests.{ltb-false, eqb-false, le-ltb, ne_eqb}
use Rattle.network.specs.Sound.{Within, TwoNodes}
use Rattle.network.specs.Verdict.{outside, loose}
use Rattle.network.proofs.Or.{or-false-left, or-false-right}

-- x is not outside: both of its bounds
pub within : (lo hi x : ℕ) → outside lo hi x ≡ false → Within lo hi x
unfolding outside
within lo hi x h =
    record { least = ltb-false _ _ (or-false-left (ltb x lo) (ltb hi x) h); most = ltb-false _ _ (or-false-right (ltb x lo) (ltb hi x) h) }

pub not-outside : {lo hi x : ℕ} → Within lo hi x → outside lo hi x ≡ false
unfolding outside
not-outside w = simp (le-ltb _ _ w.least, le-ltb _ _ w.most)

-- a and b are not loose: both are nodes, and two
pub ends : (n a b : ℕ) → loose n a b ≡ false → TwoNodes n a b
unfolding loose
ends n a b h =
    let both : outside 1 n a || outside 1 n b ≡ false = or-false-left (outside 1 n a || outside 1 n b) (eqb a b) h in
    record {
      first = within 1 n a (or-false-left (outside 1 n a) (outside 1 n b) both);
      second = within 1 n b (or-false-right (outside 1 n a) (outside 1 n b) both);
      differ = eqb-false a b (or-false-right (outside 1 n a || outside 1 n b) (eqb a b) h);
    }

pub not-loose : {n a b : ℕ} → TwoNodes n a b → loose n a b ≡ false
unfolding loose
not-loose w = simp (not-outside w.first, not-outside w.second, ne_eqb _ _ w.differ)

-- Equal ends are equally loose.
pub loose-of : (n : ℕ) {t : Bool} {x y a b : ℕ} → t ≡ loose n x y → x ≡ a → y ≡ b → t ≡ loose n a b
loose-of n h p q = rw (← p, ← q) h
