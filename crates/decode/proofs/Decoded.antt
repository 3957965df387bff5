-- Columns read to their places, one after the other, are the network in the bytes. Assumes nothing.
use mathlib.Core.Path.{◌≡◌, refl, ap, ◌∙◌}
use mathlib.Core.List.{List}
use mathlib.Core.Logic.{◌⊎◌, inl, inr, ⊎_elim}
use Prim.Native.Nat.{ℕ, ◌+◌, ◌-◌, ◌≤◌}
use native.Mathlib.Omega.{arith}
use borrow.Rule.Slice.PartMut.{put_mid, same_len_mid}
use lib.ListN.{length}
use Rattle.numbers.specs.Numbers.{column}
use Rattle.packed.specs.Packed as packed
use Rattle.packed.specs.Packed.{net_in, tails_from, heads_from, capacities_from, sources_from, sinks_from, marks_from, limits_from}
use Rattle.packed.specs.declared.Shape.{Shape}
use Rattle.packed.proofs.Columns.{part_length, part-put, part-before, part-behind}
use Rattle.decode.specs.Calls.{OfPairs, PairsRead, OfBelts, BeltsRead, OfLimits, LimitsRead, Decoding}
use Rattle.decode.specs.Decode.{network_in}

-- Member j of the first n items stands from place a on, and every other column is as it was.
pub record Filled (bytes : List ℕ) (k j a n : ℕ) (xs new : List ℕ) : Type 0 where
  pub size : length new ≡ length xs
  pub holds : packed.part a n new ≡ column bytes k j n
  pub kept : (b i : ℕ) → (b + i ≤ a) ⊎ (a + n ≤ b) → packed.part b i new ≡ packed.part b i xs

-- So it is where those n places were lent and read into.
pub fills :
    (bytes : List ℕ) (k j a n : ℕ) (xs ys : List ℕ) → length ys ≡ length (packed.part a n xs) →
    ys ≡ column bytes k j (length (packed.part a n xs)) → a + n ≤ length xs →
    Filled bytes k j a n xs (put_mid a (a + n - a) xs ys)
fills bytes k j a n xs ys same read h =
    let size = part_length a n xs h in
    record {
      size = same_len_mid a (a + n - a) xs ys same;
      holds = part-put a n xs ys h (same ∙ size) ∙ (read ∙ ap (column bytes k j) size);
      kept = λ b i.
          ⊎_elim
          (λ (past : b + i ≤ a). part-before a n xs b i ys (omega arith) past)
          (λ (past : a + n ≤ b). part-behind a n xs ys h (same ∙ size) b i past);
    }

-- The two columns of the pairs,
module _ {s : Shape} {pairs x₀ x₁ x₂ : List ℕ} (d : OfPairs s pairs x₀)
    (sources : sources_from + s.commodities ≤ length x₀ → Filled pairs 2 0 sources_from s.commodities x₀ x₁)
    (sinks : sinks_from + s.commodities ≤ length x₁ → Filled pairs 2 1 sinks_from s.commodities x₁ x₂) where
  pub pairs-read : PairsRead s pairs x₀ x₂
  pairs-read =
      let few = d.packed.few-commodities in let places = d.packed.places in
      let first = sources (omega (arith, few, places)) in
      let second = sinks (omega (arith, few, places, first.size)) in
      record {
        size = second.size ∙ first.size;
        sources = second.kept sources_from s.commodities (inl (omega (arith, few))) ∙ first.holds;
        sinks = second.holds;
      }

-- and the four of the belts.
module _ {s : Shape} {belts x₀ x₁ x₂ x₃ x₄ : List ℕ} (d : OfBelts s belts x₀)
    (tails : tails_from + s.arcs ≤ length x₀ → Filled belts 4 0 tails_from s.arcs x₀ x₁)
    (heads : heads_from + s.arcs ≤ length x₁ → Filled belts 4 1 heads_from s.arcs x₁ x₂)
    (capacities : capacities_from + s.arcs ≤ length x₂ → Filled belts 4 2 capacities_from s.arcs x₂ x₃)
    (marks : marks_from + s.arcs ≤ length x₃ → Filled belts 4 3 marks_from s.arcs x₃ x₄) where
  few : s.arcs ≤ 256
  few = d.packed.few-arcs

  places : 1152 ≤ length x₀
  places = d.packed.places

  first : Filled belts 4 0 tails_from s.arcs x₀ x₁
  first = tails (omega (arith, few, places))

  second : Filled belts 4 1 heads_from s.arcs x₁ x₂
  second = heads (omega (arith, few, places, first.size))

  third : Filled belts 4 2 capacities_from s.arcs x₂ x₃
  third = capacities (omega (arith, few, places, first.size, second.size))

  fourth : Filled belts 4 3 marks_from s.arcs x₃ x₄
  fourth = marks (omega (arith, few, places, first.size, second.size, third.size))

  -- A column between capacities and marks is left alone by all.
  between : (b i : ℕ) → capacities_from + s.arcs ≤ b → b + i ≤ marks_from → packed.part b i x₄ ≡ packed.part b i x₀
  between b i low high =
      fourth.kept b i (inl high) ∙
      (third.kept b i (inr low) ∙ (second.kept b i (inr (omega arith)) ∙ first.kept b i (inr (omega arith))))

  pub belts-read : BeltsRead s belts x₀ x₄
  belts-read =
      let k = d.packed.few-commodities in
      record {
        size = fourth.size ∙ (third.size ∙ (second.size ∙ first.size));
        tails =
            fourth.kept tails_from s.arcs (inl (omega (arith, few))) ∙
            (third.kept tails_from s.arcs (inl (omega (arith, few))) ∙ (second.kept tails_from s.arcs (inl (omega (arith, few))) ∙ first.holds));
        heads =
            fourth.kept heads_from s.arcs (inl (omega (arith, few))) ∙
            (third.kept heads_from s.arcs (inl (omega (arith, few))) ∙ second.holds);
        capacities = fourth.kept capacities_from s.arcs (inl (omega (arith, few))) ∙ third.holds;
        marks = fourth.holds;
        sources = between sources_from s.commodities (omega (arith, few)) (omega (arith, k));
        sinks = between sinks_from s.commodities (omega (arith, few)) (omega (arith, k));
      }

-- The limits' own.
pub limits-read :
    {s : Shape} {limits x₀ x₁ : List ℕ} → OfLimits s limits x₀ →
    (limits_from + s.limits ≤ length x₀ → Filled limits 1 0 limits_from s.limits x₀ x₁) → LimitsRead s limits x₀ x₁
limits-read d limits =
    let p = d.packed in
    let read = limits (omega (arith, p.few-limits, p.few-nodes, p.places)) in
    record { holds = read.holds; kept = λ b i past. read.kept b i (inl past) }

-- All of them are the network.
module _ {s : Shape} {belts pairs limits x₀ x₁ x₂ x₃ : List ℕ} (d : Decoding s belts pairs limits x₀) (p : PairsRead s pairs x₀ x₁)
    (b : BeltsRead s belts x₁ x₂) (l : LimitsRead s limits x₂ x₃) where
  -- the columns of arcs and commodities are as they were
  of-arcs : (from : ℕ) → from ≤ marks_from → packed.part from s.arcs x₃ ≡ packed.part from s.arcs x₂
  of-arcs from h = l.kept from s.arcs (omega (arith, d.packed.few-arcs))

  of-commodities : (from : ℕ) → from ≤ sinks_from → packed.part from s.commodities x₃ ≡ packed.part from s.commodities x₂
  of-commodities from h = l.kept from s.commodities (omega (arith, d.packed.few-commodities))

  pub decoded : net_in s x₃ ≡ network_in s.nodes belts pairs limits
  unfolding net_in network_in
  decoded =
      rw (
        of-arcs tails_from (omega arith),
        of-arcs heads_from (omega arith),
        of-arcs capacities_from (omega arith),
        of-arcs marks_from (omega arith),
        of-commodities sources_from (omega arith),
        of-commodities sinks_from (omega arith),
        l.holds,
        b.tails,
        b.heads,
        b.capacities,
        b.marks,
        b.sources,
        b.sinks,
        p.sources,
        p.sinks,
        d.arcs,
        d.commodities,
        d.given,
      ) refl
