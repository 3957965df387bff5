-- Columns of a slice: their sizes and numbers, and what a part that comes back leaves of them. Assumes nothing.
use mathlib.Core.Path.{◌≡◌, sym, ap, ◌∙◌}
use mathlib.Core.List.{List, ◌++◌}
use Prim.Native.Nat.{ℕ, ◌+◌, ◌-◌, ◌≤◌, ◌<◌}
use native.Mathlib.Omega.{arith}
use borrow.Rule.Slice.PartMut.{same_len_mid, mid_len, drop_put, post_of}
use lib.ListN.{length, get_or, take, drop, length-drop, take-append-drop}
use lib.Seq.{length-take-le, take_at, drop_at, take-append-le, drop-append-le, drop-drop, get_or-take, get_or-drop}
use Rattle.network.specs.Network.{arcs, commodities}
use Rattle.packed.specs.Packed.{part, put, tails_from, heads_from, capacities_from, sources_from, sinks_from, marks_from, limits_from, net_in, Packed}
use Rattle.packed.specs.declared.Shape.{Shape}

module _ (a n : ℕ) (xs : List ℕ) where
  pub part_length : a + n ≤ length xs → length (part a n xs) ≡ n
  part_length h = mid_len a (a + n) xs h ∙ omega arith

  pub part_at : (i : ℕ) → i < n → get_or (part a n xs) i 0 ≡ get_or xs (a + i) 0
  part_at i l = get_or-take (a + n - a) (drop a xs) i 0 (omega arith) ∙ get_or-drop a xs i 0

  -- A part that was lent and comes back as ys is the column,
  module _ (ys : List ℕ) (h : a + n ≤ length xs) (same : length ys ≡ n) where
    pub part-put : part a n (put a n xs ys) ≡ ys
    part-put =
        ap (take (a + n - a)) (drop_at (take a xs) (ys ++ post_of a (a + n - a) xs) a (length-take-le a xs (omega arith))) ∙
        take_at ys (post_of a (a + n - a) xs) (a + n - a) (same ∙ omega arith)

    pub put-length : length (put a n xs ys) ≡ length xs
    put-length = same_len_mid a (a + n - a) xs ys (same ∙ sym (part_length h))

    -- what is behind it stays,
    pub drop-behind : (b : ℕ) → a + n ≤ b → drop b (put a n xs ys) ≡ drop b xs
    drop-behind b past =
        let whole : a + n + (b - (a + n)) ≡ b = omega arith in
        let split : (l : List ℕ) → drop (b - (a + n)) (drop (a + n) l) ≡ drop b l = λ l. drop-drop (b - (a + n)) (a + n) l ∙ ap (λ i. drop i l) whole in
        sym (split (put a n xs ys)) ∙ (ap (drop (b - (a + n))) (drop_put a (a + n) xs ys (omega arith) h (same ∙ omega arith)) ∙ split xs)

    -- the columns there too,
    pub part-behind : (b k : ℕ) → a + n ≤ b → part b k (put a n xs ys) ≡ part b k xs
    part-behind b k past = ap (take (b + k - b)) (drop-behind b past)

  -- and so do those before it.
  pub part-before : (b k : ℕ) (ys : List ℕ) → a ≤ length xs → b + k ≤ a → part b k (put a n xs ys) ≡ part b k xs
  part-before b k ys h past =
      let front : (zs : List ℕ) → part b k (take a xs ++ zs) ≡ part b k (take a xs) = λ zs.
      ap (take (b + k - b)) (drop-append-le b (take a xs) zs (omega (arith, length-take-le a xs h))) ∙
      take-append-le (b + k - b) (drop b (take a xs)) zs (omega (arith, length-take-le a xs h, length-drop b (take a xs))) in
      front (ys ++ post_of a (a + n - a) xs) ∙ (sym (front (drop a xs)) ∙ ap (part b k) (take-append-drop a xs))

-- The network's columns have as many numbers as its shape says.
module _ {s : Shape} {xs : List ℕ} (p : Packed s xs) where
  pub arcs-is : arcs (net_in s xs) ≡ s.arcs
  unfolding net_in
  arcs-is = part_length tails_from s.arcs xs (omega (arith, p.few-arcs, p.places))

  pub heads-length : length (net_in s xs).heads ≡ arcs (net_in s xs)
  unfolding net_in
  heads-length = part_length heads_from s.arcs xs (omega (arith, p.few-arcs, p.places)) ∙ sym arcs-is

  pub capacities-length : length (net_in s xs).capacities ≡ arcs (net_in s xs)
  unfolding net_in
  capacities-length = part_length capacities_from s.arcs xs (omega (arith, p.few-arcs, p.places)) ∙ sym arcs-is

  pub marks-length : length (net_in s xs).marks ≡ arcs (net_in s xs)
  unfolding net_in
  marks-length = part_length marks_from s.arcs xs (omega (arith, p.few-arcs, p.places)) ∙ sym arcs-is

  pub limits-length : length (net_in s xs).limits ≡ s.limits
  unfolding net_in
  limits-length = part_length limits_from s.limits xs (omega (arith, p.few-nodes, p.few-limits, p.places))

  pub commodities-is : commodities (net_in s xs) ≡ s.commodities
  unfolding net_in
  commodities-is = part_length sources_from s.commodities xs (omega (arith, p.few-commodities, p.places))

  pub sinks-length : length (net_in s xs).sinks ≡ commodities (net_in s xs)
  unfolding net_in
  sinks-length = part_length sinks_from s.commodities xs (omega (arith, p.few-commodities, p.places)) ∙ sym commodities-is
