-- `walk::beyond` meets its contract: its test is the definition's.
-- Assumes nothing.
use borrow.Author.Tests.{eq-eqb, ne_eqb}
use mathlib.Core.Path.{◌≡◌, sym, ◌∙◌}
use mathlib.Core.Bool.{true, false}
use Prim.Native.Nat.{◌+◌}
use lib.ListN.{get_or}
use Rattle.network.specs.Network.{Network, tail, head}
use Rattle.network.specs.Path.{forward}
use Rattle.packed.specs.Packed.{net_in, tails_from, heads_from}
use Rattle.packed.proofs.Columns.{part_at}
use Rattle.walk.proofs.beyond.Goals as goal
use Rattle.walk.proofs.beyond.Goals.{Start}

abbrev net : Start → Network
net s = net_in s.args.net.now.shape s.args.net.now.numbers.now

-- the two ends, as they are read
from : (s : Start) → get_or s.args.net.now.numbers.now (tails_from + s.args.e) 0 ≡ tail (net s) s.args.e
unfolding net_in
from s = sym (part_at tails_from s.args.net.now.shape.arcs s.args.net.now.numbers.now s.args.e s.requires.arc)

to : (s : Start) → get_or s.args.net.now.numbers.now (heads_from + s.args.e) 0 ≡ head (net s) s.args.e
unfolding net_in
to s = sym (part_at heads_from s.args.net.now.shape.arcs s.args.net.now.numbers.now s.args.e s.requires.arc)

pub returns-then-tail-v : goal.returns-then-tail-v
returns-then-tail-v c =
    let ahead : forward (net (goal.at.returns-then-tail-v c).Start) c.args.v c.args.e ≡ true = eq-eqb _ _ (sym (from (goal.at.returns-then-tail-v c).Start) ∙ c.if-tail-v.true) in
    rw ahead (to (goal.at.returns-then-tail-v c).Start)

pub returns : goal.returns
returns c =
    let back : forward (net (goal.at.returns c).Start) c.args.v c.args.e ≡ false = ne_eqb _ _ (λ q. c.if-tail-v.false (from (goal.at.returns c).Start ∙ q)) in
    rw back (from (goal.at.returns c).Start)
