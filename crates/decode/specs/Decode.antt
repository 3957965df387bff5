-- The network in a call's byte slices. Document 01, "The floor and its flow".
use Rattle.std.specs.Prelude.{List, ℕ, min}
use Rattle.network.specs.Network.{Network}
use Rattle.numbers.specs.Numbers.{count, items, column}

-- A belt is an item of four numbers (tail, head, capacity and, by request C-12, its mark), a pair one of two; an incomplete last item is not read.
-- By request C-17 the limits are one number for each node, and more are not read; where fewer are given, later nodes have none.
unfoldable pub network_in : ℕ → List ℕ → List ℕ → List ℕ → Network
network_in n belts pairs limits =
    record {
      nodes = n;
      tails = column belts 4 0 (items 4 belts);
      heads = column belts 4 1 (items 4 belts);
      capacities = column belts 4 2 (items 4 belts);
      marks = column belts 4 3 (items 4 belts);
      limits = column limits 1 0 (min n (count limits));
      sources = column pairs 2 0 (items 2 pairs);
      sinks = column pairs 2 1 (items 2 pairs);
    }
