-- A slice that takes the sources and the sinks of the pairs holds the network of its arcs and of the pairs. Assumes nothing.
use mathlib.Core.Path.{◌≡◌, refl, sym, ap, ◌∙◌}
use mathlib.Core.List.{List}
use Prim.Native.Nat.{ℕ, ◌+◌, ◌/◌, ◌≤◌}
use native.Mathlib.Omega.{arith}
use lib.ListN.{length}
use Rattle.packed.specs.Packed.{part, net_in, tails_from, heads_from, capacities_from, sources_from, sinks_from, marks_from, limits_from, put, net_numbers}
use Rattle.packed.specs.declared.Shape.{Shape}
use Rattle.packed.proofs.Columns.{part_length, put-length, part-put, part-before, part-behind}
use Rattle.records.specs.Parts.{network_copied, half_of, Pairing}
use Rattle.records.specs.Records.{sources_in, sinks_in}
use Rattle.records.proofs.Pairs.{length-half}

module _ {s : Shape} {pairs xs : List ℕ} (p : Pairing s pairs xs) {ys : List ℕ} (es : ys ≡ half_of 0 pairs) where
  abbrev k : ℕ
  k = s.commodities

  abbrev sourced : List ℕ
  sourced = put sources_from k xs ys

  room : net_numbers ≤ length xs
  room = p.packed.places

  ny : length ys ≡ k
  ny = ap length es ∙ (length-half 0 pairs ∙ sym p.each)

  sourced-length : length sourced ≡ length xs
  sourced-length = put-length sources_from k xs ys (omega (arith, room, p.packed.few-commodities)) ny

  sinks-places : 800 + k ≤ length sourced
  sinks-places = omega (arith, room, p.packed.few-commodities, sourced-length)

  pub sinks-column : length (part sinks_from k sourced) ≡ length pairs / 2
  sinks-column = part_length sinks_from k sourced sinks-places ∙ p.each

  module _ {zs : List ℕ} (et : zs ≡ half_of 1 pairs) where
    abbrev filled : List ℕ
    filled = put sinks_from k sourced zs

    nz : length zs ≡ k
    nz = ap length et ∙ (length-half 1 pairs ∙ sym p.each)

    pub paired-length : length filled ≡ length xs
    paired-length = put-length sinks_from k sourced zs sinks-places nz ∙ sourced-length

    stays : (b : ℕ) → b + s.arcs ≤ 768 → part b s.arcs filled ≡ part b s.arcs xs
    stays b l =
        part-before sinks_from k sourced b s.arcs zs (omega (arith, sinks-places)) (omega arith) ∙
        part-before sources_from k xs b s.arcs ys (omega (arith, room)) l

    stays-behind : (b n : ℕ) → marks_from ≤ b → part b n filled ≡ part b n xs
    stays-behind b n l =
        part-behind sinks_from k sourced zs sinks-places nz b n (omega (arith, p.packed.few-commodities)) ∙
        part-behind sources_from k xs ys (omega (arith, room, p.packed.few-commodities)) ny b n (omega (arith, p.packed.few-commodities))

    sources-in : part sources_from k filled ≡ sources_in pairs
    unfolding half_of
    sources-in =
        part-before sinks_from k sourced 768 k zs (omega (arith, sinks-places)) (omega (arith, p.packed.few-commodities)) ∙
        (part-put sources_from k xs ys (omega (arith, room, p.packed.few-commodities)) ny ∙ es)

    sinks-put : part sinks_from k filled ≡ sinks_in pairs
    unfolding half_of
    sinks-put = part-put sinks_from k sourced zs sinks-places nz ∙ et

    pub paired : net_in s filled ≡ network_copied s.nodes s.arcs xs pairs (part limits_from s.limits xs)
    unfolding net_in
    paired =
        let few = p.packed.few-arcs in
        rw (
          stays tails_from (omega (arith, few)),
          stays heads_from (omega (arith, few)),
          stays capacities_from (omega (arith, few)),
          stays-behind marks_from s.arcs (omega arith),
          stays-behind limits_from s.limits (omega arith),
          sources-in,
          sinks-put,
        )
        refl
