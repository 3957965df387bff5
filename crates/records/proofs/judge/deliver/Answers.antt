-- `records::judge::deliver` meets its contract: the outcome is that of the copied arcs, the pairs and the limits. Assumes nothing.
use mathlib.Core.Path.{◌≡◌, ap, ◌∙◌}
use native.Mathlib.Omega.{arith}
use lib.ListN.{take}
use Rattle.network.specs.Network.{Network}
use Rattle.network.specs.Verdict.{verdict, item_conditions}
use Rattle.packed.specs.Packed.{net_in}
use Rattle.records.specs.Parts.{network_copied}
use Rattle.records.proofs.Judged.{lends, replied-same}
use Rattle.records.proofs.Shaped.{checking, packs, completing, copied_is, counted, shape-counts, shape-room}
use Rattle.records.proofs.judge.deliver.Goals as goal
use Rattle.records.proofs.judge.deliver.Goals.{After-complete}

pub shape-s-requires : goal.shape-s-requires
shape-s-requires c =
    let k = c.requires.sizes.counts in
    omega (arith, k.of-nodes.most, k.of-arcs.most)

pub complete-requires : goal.complete-requires
complete-requires c =
    completing c.args.pairs.now c.args.limits.now c.shape-s.ensures (checking c.requires.sizes) c.args.arcs (omega (arith, c.well_formed.1.1.1.0))

-- the network in the slice is the call's
held : (c : After-complete) →
    let s = c.args in
    net_in c.shape-s.result c.complete.new.net ≡ network_copied s.n s.m s.arcs s.pairs.now (take s.n s.limits.now)
held c =
    let s = c.args in
    c.complete.ensures ∙ copied_is s.pairs.now s.limits.now c.shape-s.ensures s.arcs

pub deliver_in-requires : goal.deliver_in-requires
deliver_in-requires c =
    let e = c.shape-s.ensures in
    let p = c.requires.sizes in
    let ps = c.args.pairs.now in
    let ls = c.args.limits.now in
    record {
      lent =
          lends c.args.q (packs ps ls e (checking p) _ (omega (arith, c.complete.auto.net, c.well_formed.1.1.1.0))) (shape-counts ps ls e p)
          (counted ps ls e c.args.arcs p.counts.of-arcs.most (omega (arith, c.well_formed.1.1.1.0)) (held (goal.at.deliver_in-requires c).After-complete))
          (ap (λ (x : Network). verdict (item_conditions x)) (held (goal.at.deliver_in-requires c).After-complete) ∙ c.requires.items);
      room = shape-room ps ls e p;
    }

pub returns : goal.returns
returns c =
    replied-same (held (goal.at.returns c).After-complete) c.deliver_in.ensures
