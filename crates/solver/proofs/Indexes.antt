-- Both indexes and the capacities of the resources made in one slice, one after the other. Assumes nothing.
use mathlib.Core.Path.{◌≡◌, sym, ap, subst, ◌∙◌}
use mathlib.Core.List.{List}
use Prim.Native.Nat.{ℕ, ◌+◌, ◌≤◌}
use native.Mathlib.Omega.{arith}
use lib.ListN.{length}
use Rattle.bounds.specs.Bounds.{most_arcs}
use Rattle.network.specs.Network.{Network}
use Rattle.network.specs.Resources.{resources, resource_capacities}
use Rattle.packed.specs.Packed.{part, put}
use Rattle.packed.proofs.Columns.{part_length, part-put, part-before, put-length}
use Rattle.index.specs.Index.{index_numbers, Into, Out}
use Rattle.choice.specs.Calls.{resource_capacities_from, indexes_numbers, Indexed}

module _ (xs a b : List ℕ) (r : ℕ) (few : r ≤ most_arcs) (room : indexes_numbers ≤ length xs) (first : length a ≡ length (part 0 index_numbers xs)) where
  -- the slice with the first index,
  abbrev one : List ℕ
  one = put 0 index_numbers xs a

  first-size : length a ≡ index_numbers
  first-size = first ∙ part_length 0 index_numbers xs (omega arith)

  one-length : length one ≡ length xs
  one-length = put-length 0 index_numbers xs a (omega arith) first-size

  module _ (second : length b ≡ length (part index_numbers index_numbers one)) where
    -- with both,
    abbrev two : List ℕ
    two = put index_numbers index_numbers one b

    second-size : length b ≡ index_numbers
    second-size = second ∙ part_length index_numbers index_numbers one (omega (arith, one-length))

    two-length : length two ≡ length xs
    two-length = put-length index_numbers index_numbers one b (omega (arith, one-length)) second-size ∙ one-length

    pub space : resource_capacities_from + r ≤ length two
    space = omega (arith, two-length)

    module _ (net : Network) (counted : r ≡ resources net) (c : List ℕ) (third : length c ≡ length (part resource_capacities_from r two)) where
      -- and with the capacities.
      abbrev three : List ℕ
      three = put resource_capacities_from r two c

      third-size : length c ≡ r
      third-size = third ∙ part_length resource_capacities_from r two space

      into-is : part 0 index_numbers three ≡ a
      into-is =
          part-before resource_capacities_from r two 0 index_numbers c (omega (arith, two-length)) (omega arith) ∙
          (part-before index_numbers index_numbers one 0 index_numbers b (omega (arith, one-length)) (omega arith) ∙
          part-put 0 index_numbers xs a (omega arith) first-size)

      out-is : part index_numbers index_numbers three ≡ b
      out-is =
          part-before resource_capacities_from r two index_numbers index_numbers c (omega (arith, two-length)) (omega arith) ∙
          part-put index_numbers index_numbers one b (omega (arith, one-length)) second-size

      pub indexed : Into net a → Out net b → c ≡ resource_capacities net → Indexed net three
      indexed into out caps =
          record {
            numbers = omega (arith, put-length resource_capacities_from r two c space third-size, two-length);
            into = subst (Into net) (sym into-is) into;
            out = subst (Out net) (sym out-is) out;
            capacities = ap (λ n. part resource_capacities_from n three) (sym counted) ∙ (part-put resource_capacities_from r two c space third-size ∙ caps);
          }
