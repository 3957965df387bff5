-- `memory::raise::raise_at` meets its contract: the bound that is stored is the greater one. Assumes nothing.
use mathlib.Core.Path.{◌≡◌, refl, sym, ap, ◌∙◌}
use mathlib.Core.Logic.{inl, inr}
use Prim.Native.Nat.{ℕ, ◌+◌, ◌≤◌, ◌<◌}
use native.Mathlib.Omega.{arith}
use lib.ListN.{get_or}
use Rattle.network.specs.Network.{source, sink}
use Rattle.packed.specs.Packed.{net_in, sources_from, sinks_from}
use Rattle.packed.proofs.Columns.{part_at, part_length}
use Rattle.paths.specs.Order.{distance_numbers}
use Rattle.paths.specs.Through.{through}
use Rattle.memory.specs.Memory.{page_from, distances_in}
use Rattle.memory.specs.Raised.{told_by, Greater}
use Rattle.memory.proofs.raise.raise_at.Goals as goal
use Rattle.memory.proofs.raise.raise_at.Goals.{After-told-x, Start, then-old-x, else-old-x}

-- the two ends, as they are read
from : (s : Start) → get_or s.args.net.now.numbers.now (sources_from + s.args.i) 0 ≡ source (net_in s.args.net.now.shape s.args.net.now.numbers.now) s.args.i
unfolding net_in
from s = sym (part_at sources_from s.args.net.now.shape.commodities s.args.net.now.numbers.now s.args.i s.requires.among)

to : (s : Start) → get_or s.args.net.now.numbers.now (sinks_from + s.args.i) 0 ≡ sink (net_in s.args.net.now.shape s.args.net.now.numbers.now) s.args.i
unfolding net_in
to s = sym (part_at sinks_from s.args.net.now.shape.commodities s.args.net.now.numbers.now s.args.i s.requires.among)

-- what is told, of the commodity's own ends
tells : (c : After-told-x) → let n = net_in c.args.net.now.shape c.args.net.now.numbers.now in
    c.told-x.result ≡
    told_by (through c.args.ix.now c.args.lengths.now) (distances_in c.args.t c.args.memory.now) (source n c.args.i) (sink n c.args.i)
tells c = rw (← from (goal.at.After-told-x c).Start, ← to (goal.at.After-told-x c).Start) c.told-x.ensures

-- the greater is taken
risen : {a b r x : ℕ} → x ≡ b → a < x → r ≡ x → Greater a b r
risen q b e = record { first = omega arith; second = omega arith; one = inr (e ∙ q) }

left : {a b r x : ℕ} → x ≡ b → x ≤ a → r ≡ a → Greater a b r
left q b e = record { first = omega arith; second = omega arith; one = inl e }

pub told-x-requires : goal.told-x-requires
told-x-requires c =
    let p = c.requires.raising in
    let i = c.args.i in
    let size = part_length (page_from c.args.t) distance_numbers c.args.memory.now (omega (arith, p.node, p.places)) in
    record {
      from = omega (arith, size, from (goal.at.told-x-requires c).Start, p.sources i c.requires.among);
      to = omega (arith, size, to (goal.at.told-x-requires c).Start, p.sinks i c.requires.among);
      place = omega (arith, from (goal.at.told-x-requires c).Start, p.sources i c.requires.among, p.numbers);
      small = rw (from (goal.at.told-x-requires c).Start) (p.small i c.requires.among);
    }

pub returns : goal.returns
returns c =
    let place : 0 + c.args.i ≡ c.args.i = omega arith in
    rw place (record {
      greater =
          elim c.if-old-x.branch [
            | then-old-x w ↦ risen (tells (goal.at.returns c).After-told-x) (rw place at w.if-old-x.true) w.bound-is
            | else-old-x w ↦ left (tells (goal.at.returns c).After-told-x) (rw place at w.if-old-x.false) (w.bound-is ∙ ap (λ j. get_or c.args.memory.now j 0) place)
          ];
      stored = refl;
    })
